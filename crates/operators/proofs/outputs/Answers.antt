-- `operators::outputs` meets its contract: each branch by the operator that it calls, named by its number.
-- Assumes nothing.
use Rattle.operators.proofs.Named.{log_named}
use Rattle.store.specs.Rep.{titles}
use Rattle.semantics.specs.Operators.{table, ◌is◌}
use native.Mathlib.Omega.{arith}
use mathlib.Core.Path.{refl}
use Rattle.operators.proofs.outputs.Goals as goal

pub returns-in-51 : goal.returns-in-51
unfolding titles table ◌is◌
returns-in-51 c = log_named _ _ c.in-51.is refl c.echo.ensures

pub returns-in-52 : goal.returns-in-52
unfolding titles table ◌is◌
returns-in-52 c = log_named _ _ c.in-52.is refl c.echostack.ensures

pub returns-in_default : goal.returns-in_default
unfolding titles table ◌is◌
returns-in_default c = log_named 53 _ (omega arith) refl (c.print.ensures _)
