-- `machine::Machine::push_pending` meets its contract: the slot's place and the place above the topmost item exchange what they hold.
-- Assumes nothing.
use Rattle.machine.proofs.Tops.{return_rep}
use native.Mathlib.Omega.{arith}
use mathlib.Core.Path.{refl}
use Rattle.machine.proofs.Machine.push_pending.Goals as goal

pub returns : goal.returns
returns c = record { moves_items = record { moves = λ d cs l μ R. rw (c.set_item.ensures, c.frame_value-value.ensures.0, c.frame_value-value.ensures.1) (return_rep R _ (omega (arith, c.requires.0)) c.requires.2) }; depth_value = (refl, refl) }
