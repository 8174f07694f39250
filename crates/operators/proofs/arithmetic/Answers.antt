-- `operators::arithmetic` meets its contract: each branch by the operator that it calls, named by its number.
-- Assumes nothing.
use Rattle.operators.proofs.Named.{stack_named}
use Rattle.store.specs.Rep.{titles}
use Rattle.semantics.specs.Operators.{table, ◌is◌}
use native.Mathlib.Omega.{arith}
use mathlib.Core.Path.{refl}
use Rattle.operators.proofs.arithmetic.Goals as goal

pub returns-in-6 : goal.returns-in-6
unfolding titles table ◌is◌
returns-in-6 c = stack_named _ _ c.in-6.is refl c.add.ensures

pub returns-in-7 : goal.returns-in-7
unfolding titles table ◌is◌
returns-in-7 c = stack_named _ _ c.in-7.is refl c.sub.ensures

pub returns-in-8 : goal.returns-in-8
unfolding titles table ◌is◌
returns-in-8 c = stack_named _ _ c.in-8.is refl c.mul.ensures

pub returns-in-9 : goal.returns-in-9
unfolding titles table ◌is◌
returns-in-9 c = stack_named _ _ c.in-9.is refl c.idiv.ensures

pub returns-in-10 : goal.returns-in-10
unfolding titles table ◌is◌
returns-in-10 c = stack_named _ _ c.in-10.is refl c.rem.ensures

pub returns-in_default : goal.returns-in_default
unfolding titles table ◌is◌
returns-in_default c = stack_named 11 _ (omega arith) refl c.abs.ensures
