-- `text::is_plain` meets its contract. The tests are the definition's.
-- Assumes nothing.
use Rattle.std.proofs.Common.{refl}
use Rattle.text.specs.Writing.{is_plain}
use Rattle.text.proofs.is_plain.Goals as goal

pub returns : goal.returns
unfolding is_plain
returns c = refl
