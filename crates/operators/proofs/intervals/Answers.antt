-- `operators::intervals` meets its contract: each branch by the operator that it calls, named by its number.
-- Assumes nothing.
use Rattle.operators.proofs.Named.{heap_named}
use Rattle.store.specs.Rep.{titles}
use Rattle.semantics.specs.Operators.{table, ◌is◌}
use native.Mathlib.Omega.{arith}
use mathlib.Core.Path.{refl}
use Rattle.operators.proofs.intervals.Goals as goal

pub returns-in-42 : goal.returns-in-42
unfolding titles table ◌is◌
returns-in-42 c = heap_named _ _ c.in-42.is refl c.getinterval.ensures

pub returns-in-43 : goal.returns-in-43
unfolding titles table ◌is◌
returns-in-43 c = heap_named _ _ c.in-43.is refl c.putinterval.ensures

pub returns-in-44 : goal.returns-in-44
unfolding titles table ◌is◌
returns-in-44 c = heap_named _ _ c.in-44.is refl c.aload.ensures

pub returns-in-45 : goal.returns-in-45
unfolding titles table ◌is◌
returns-in-45 c = heap_named _ _ c.in-45.is refl c.astore.ensures

pub returns-in_default : goal.returns-in_default
unfolding titles table ◌is◌
returns-in_default c = heap_named 46 _ (omega arith) refl c.string.ensures
