-- `operators::arrays` meets its contract: each branch by the operator that it calls, named by its number.
-- Assumes nothing.
use Rattle.operators.proofs.Named.{heap_named, stack_does}
use Rattle.store.specs.Rep.{titles}
use Rattle.semantics.specs.Operators.{table, ◌is◌}
use native.Mathlib.Omega.{arith}
use mathlib.Core.Path.{refl}
use Rattle.operators.proofs.arrays.Goals as goal

pub returns-in-36 : goal.returns-in-36
unfolding titles table ◌is◌
returns-in-36 c = heap_named _ _ c.in-36.is refl c.array.ensures

pub returns-in-37 : goal.returns-in-37
unfolding titles table ◌is◌
returns-in-37 c = heap_named _ _ c.in-37.is refl (stack_does _ c.mark.ensures _)

pub returns-in-38 : goal.returns-in-38
unfolding titles table ◌is◌
returns-in-38 c = heap_named _ _ c.in-38.is refl c.close.ensures

pub returns-in-39 : goal.returns-in-39
unfolding titles table ◌is◌
returns-in-39 c = heap_named _ _ c.in-39.is refl c.length.ensures

pub returns-in-40 : goal.returns-in-40
unfolding titles table ◌is◌
returns-in-40 c = heap_named _ _ c.in-40.is refl c.get.ensures

pub returns-in_default : goal.returns-in_default
unfolding titles table ◌is◌
returns-in_default c = heap_named 41 _ (omega arith) refl c.put.ensures
