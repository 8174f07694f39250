-- `operators::converters` meets its contract: each branch by the operator that it calls, named by its number.
-- Assumes nothing.
use Rattle.operators.proofs.Named.{dictionary_named, named_dictionary, stack_dictionary}
use Rattle.store.specs.Rep.{titles}
use Rattle.semantics.specs.Operators.{table, ◌is◌}
use native.Mathlib.Omega.{arith}
use mathlib.Core.Path.{refl}
use Rattle.operators.proofs.converters.Goals as goal

pub returns-in-47 : goal.returns-in-47
unfolding titles table ◌is◌
returns-in-47 c = dictionary_named _ _ c.in-47.is refl (named_dictionary _ c.cvs.ensures)

pub returns-in-48 : goal.returns-in-48
unfolding titles table ◌is◌
returns-in-48 c = dictionary_named _ _ c.in-48.is refl (stack_dictionary _ c.cvx.ensures _ _)

pub returns-in-49 : goal.returns-in-49
unfolding titles table ◌is◌
returns-in-49 c = dictionary_named _ _ c.in-49.is refl (stack_dictionary _ c.cvlit.ensures _ _)

pub returns-in_default : goal.returns-in_default
unfolding titles table ◌is◌
returns-in_default c = dictionary_named 50 _ (omega arith) refl c.cvn.ensures
