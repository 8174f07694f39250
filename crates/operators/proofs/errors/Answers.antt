-- `operators::errors` meets its contract: each branch by the operator that it calls, named by its number.
-- Assumes nothing.
use mathlib.Core.Path.{refl}
use Rattle.semantics.specs.Operators.{table, ◌is◌}
use Rattle.store.specs.Rep.{titles}
use Rattle.operators.proofs.Named.{dictionary_named}
use native.Mathlib.Omega.{arith}
use Rattle.operators.proofs.errors.Goals as goal

pub returns-in-54 : goal.returns-in-54
unfolding titles table ◌is◌
returns-in-54 c = dictionary_named _ _ c.in-54.is refl c.onerror.ensures

pub returns-in-55 : goal.returns-in-55
unfolding titles table ◌is◌
returns-in-55 c = dictionary_named _ _ c.in-55.is refl c.errorname.ensures

pub returns-in_default : goal.returns-in_default
unfolding titles table ◌is◌
returns-in_default c = let pre = c.requires in
    dictionary_named 56 _ (omega arith) refl c.command.ensures
