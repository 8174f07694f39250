-- `machine::Machine::push_value` meets its contract: the place above the topmost item takes the value.
-- Assumes nothing.
use Rattle.machine.proofs.Copying.{push_placed, push_rep}
use mathlib.Core.Path.{refl}
use Rattle.machine.proofs.Machine.push_value.Goals as goal

pub recount-left-requires : goal.recount-left-requires
recount-left-requires c = push_placed c.requires.1.4 c.requires.1.6 c.requires.0

pub returns : goal.returns
returns c = record { pushes_value = record { moves = λ e d l μ R v new. rw c.set_item.ensures (push_rep R new c.requires.0 c.recount-left.ensures) }; depth_value = (refl, refl) }
