-- `operators::bindings` meets its contract: each branch by the operator that it calls, named by its number.
-- Assumes nothing.
use Rattle.operators.proofs.Named.{dictionary_named}
use Rattle.store.specs.Rep.{titles}
use Rattle.semantics.specs.Operators.{table, ◌is◌}
use native.Mathlib.Omega.{arith}
use mathlib.Core.Path.{refl}
use Rattle.operators.proofs.bindings.Goals as goal

pub returns-in-24 : goal.returns-in-24
unfolding titles table ◌is◌
returns-in-24 c = dictionary_named _ _ c.in-24.is refl c.def.ensures

pub returns-in-25 : goal.returns-in-25
unfolding titles table ◌is◌
returns-in-25 c = dictionary_named _ _ c.in-25.is refl c.load.ensures

pub returns-in_default : goal.returns-in_default
unfolding titles table ◌is◌
returns-in_default c = dictionary_named 26 _ (omega arith) refl c.bind.ensures
