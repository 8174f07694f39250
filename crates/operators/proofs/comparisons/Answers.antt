-- `operators::comparisons` meets its contract: each branch by the operator that it calls, named by its number.
-- Assumes nothing.
use Rattle.operators.proofs.Named.{stack_named}
use Rattle.store.specs.Rep.{titles}
use Rattle.semantics.specs.Operators.{table, ◌is◌}
use native.Mathlib.Omega.{arith}
use mathlib.Core.Path.{refl}
use Rattle.operators.proofs.comparisons.Goals as goal

pub returns-in-20 : goal.returns-in-20
unfolding titles table ◌is◌
returns-in-20 c = stack_named _ _ c.in-20.is refl c.lt.ensures

pub returns-in-21 : goal.returns-in-21
unfolding titles table ◌is◌
returns-in-21 c = stack_named _ _ c.in-21.is refl c.le.ensures

pub returns-in-22 : goal.returns-in-22
unfolding titles table ◌is◌
returns-in-22 c = stack_named _ _ c.in-22.is refl c.gt.ensures

pub returns-in_default : goal.returns-in_default
unfolding titles table ◌is◌
returns-in_default c = stack_named 23 _ (omega arith) refl c.ge.ensures
