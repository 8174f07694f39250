-- `machine::Machine::drop` meets its contract: the item's place takes null, and no word is stored.
-- Assumes nothing.
use Rattle.machine.proofs.Dropping.{drop_placed, drop_rep}
use native.Mathlib.Omega.{arith}
use mathlib.Core.Path.{refl}
use Rattle.machine.proofs.Machine.drop.Goals as goal

pub recount-left-requires : goal.recount-left-requires
recount-left-requires c = let R = c.requires.1.4 in rw (c.item-old.ensures.0, c.item-old.ensures.1) (drop_placed R _ (omega (arith, c.requires.0)))

pub returns : goal.returns
returns c = record { moves_heap = record { moves = λ e d l μ R. drop_rep R _ (omega (arith, c.requires.0)) (rw (c.item-old.ensures.0, c.item-old.ensures.1) at c.recount-left.ensures) }; depth_value = refl }
