-- `word::abs` meets its contract: the machine's absolute value is at most 2 ^ 31, so that it is its own word.
-- Assumes nothing.
use Rattle.std.proofs.Common.{nat_abs, ap, ◌∙◌}
use Rattle.semantics.specs.Words.{signed}
use Rattle.word.proofs.Signed.{reread}
use Rattle.word.proofs.Words.{abs_is}
use Rattle.word.proofs.abs.Goals as goal

pub returns : goal.returns
unfolding signed
returns c = abs_is _ _ (c.unsigned_abs.ensures.value ∙ ap nat_abs (reread _ _ c.ranges.a c.cast_signed.ensures)) c.unsigned_abs.ensures.bound
