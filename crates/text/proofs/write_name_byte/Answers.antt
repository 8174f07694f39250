-- `text::write_name_byte` meets its contract. A byte of a name is visible from 33 on.
-- Assumes nothing.
use mathlib.Core.Path.{ap}
use native.Mathlib.Omega.{arith}
use lib.ListN.{length}
use Rattle.text.proofs.Pasting.{respelt}
use Rattle.text.proofs.Escapes.{name_visible}
use Rattle.text.proofs.write_name_byte.Goals as goal

pub write_visible-requires : goal.write_visible-requires
write_visible-requires c = omega (arith, ap length (name_visible c.args.b))

pub returns : goal.returns
returns c = respelt (name_visible _) c.write_visible.ensures
