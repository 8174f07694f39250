-- `machine::Machine::put_value` meets its contract: the item's place takes the value, and its words are stored there.
-- Assumes nothing.
use Rattle.machine.proofs.Copying.{value_placed, value_rep}
use native.Mathlib.Omega.{arith}
use mathlib.Core.Path.{refl}
use Rattle.machine.proofs.Machine.put_value.Goals as goal

pub recount-left-requires : goal.recount-left-requires
recount-left-requires c = rw (c.item-old.ensures.0, c.item-old.ensures.1) (value_placed c.requires.1.4 c.args.i _ (omega (arith, c.requires.0)) c.requires.1.6)

pub returns : goal.returns
returns c = record { puts_value = record { moves = λ e d l μ R v new. rw c.set_item.ensures (value_rep R c.args.i _ (omega (arith, c.requires.0)) new (rw (c.item-old.ensures.0, c.item-old.ensures.1) at c.recount-left.ensures)) }; depth_value = refl }
