-- `operators::bits` meets its contract: each branch by the operator that it calls, named by its number.
-- Assumes nothing.
use Rattle.operators.proofs.Named.{stack_named}
use Rattle.store.specs.Rep.{titles}
use Rattle.semantics.specs.Operators.{table, ◌is◌}
use native.Mathlib.Omega.{arith}
use mathlib.Core.Path.{refl}
use Rattle.operators.proofs.bits.Goals as goal

pub returns-in-12 : goal.returns-in-12
unfolding titles table ◌is◌
returns-in-12 c = stack_named _ _ c.in-12.is refl c.neg.ensures

pub returns-in-13 : goal.returns-in-13
unfolding titles table ◌is◌
returns-in-13 c = stack_named _ _ c.in-13.is refl c.bitshift.ensures

pub returns-in-14 : goal.returns-in-14
unfolding titles table ◌is◌
returns-in-14 c = stack_named _ _ c.in-14.is refl c.bit_not.ensures

pub returns-in-15 : goal.returns-in-15
unfolding titles table ◌is◌
returns-in-15 c = stack_named _ _ c.in-15.is refl c.bit_and.ensures

pub returns-in-16 : goal.returns-in-16
unfolding titles table ◌is◌
returns-in-16 c = stack_named _ _ c.in-16.is refl c.bit_or.ensures

pub returns-in_default : goal.returns-in_default
unfolding titles table ◌is◌
returns-in_default c = stack_named 17 _ (omega arith) refl c.bit_xor.ensures
