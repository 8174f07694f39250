-- `operators::rearrangements` meets its contract: each branch by the operator that it calls, named by its number.
-- Assumes nothing.
use Rattle.operators.proofs.Named.{heap_named, stack_does}
use Rattle.store.specs.Rep.{titles}
use Rattle.semantics.specs.Operators.{table, ◌is◌}
use native.Mathlib.Omega.{arith}
use mathlib.Core.Path.{refl}
use Rattle.operators.proofs.rearrangements.Goals as goal

pub returns-in-0 : goal.returns-in-0
unfolding titles table ◌is◌
returns-in-0 c = heap_named _ _ c.in-0.is refl c.dup.ensures

pub returns-in-1 : goal.returns-in-1
unfolding titles table ◌is◌
returns-in-1 c = heap_named _ _ c.in-1.is refl (stack_does _ c.exch.ensures _)

pub returns-in-2 : goal.returns-in-2
unfolding titles table ◌is◌
returns-in-2 c = heap_named _ _ c.in-2.is refl c.pop.ensures

pub returns-in-3 : goal.returns-in-3
unfolding titles table ◌is◌
returns-in-3 c = heap_named _ _ c.in-3.is refl c.index.ensures

pub returns-in-4 : goal.returns-in-4
unfolding titles table ◌is◌
returns-in-4 c = heap_named _ _ c.in-4.is refl c.copy.ensures

pub returns-in_default : goal.returns-in_default
unfolding titles table ◌is◌
returns-in_default c = heap_named 5 _ (omega arith) refl c.roll.ensures
