-- `machine::Machine::swap` meets its contract: two places exchange what they hold, and no count changes.
-- Assumes nothing.
use Rattle.machine.proofs.Swapping.{swap_rep}
use native.Mathlib.Omega.{arith}
use mathlib.Core.Path.{refl}
use Rattle.machine.proofs.Machine.swap.Goals as goal

pub returns : goal.returns
returns c = record { moves_stack = record { moves = λ e d k l μ R. rw (c.set_item-2.ensures, c.set_item.ensures, c.item-a.ensures.0, c.item-a.ensures.1, c.item-b.ensures.0, c.item-b.ensures.1) (swap_rep R c.args.i _ c.args.j _ (omega (arith, c.requires.0)) (omega (arith, c.requires.1))) }; depth_value = refl }
