-- `operators::endings` meets its contract: each branch by the operator that it calls, named by its number.
-- Assumes nothing.
use Rattle.operators.proofs.Named.{cells_named, state_cells}
use Rattle.store.specs.Rep.{titles}
use Rattle.semantics.specs.Operators.{table, ◌is◌}
use native.Mathlib.Omega.{arith}
use mathlib.Core.Path.{refl}
use borrow.Author.Rules.{rules}
use Rattle.operators.proofs.endings.Goals as goal

pub returns-in-33 : goal.returns-in-33
unfolding titles table ◌is◌
returns-in-33 c = cells_named _ _ c.in-33.is refl (search rules)

pub returns-in-34 : goal.returns-in-34
unfolding titles table ◌is◌
returns-in-34 c = cells_named _ _ c.in-34.is refl (search rules)

pub returns-in_default : goal.returns-in_default
unfolding titles table ◌is◌
returns-in_default c = cells_named 35 _ (omega arith) refl (state_cells _ c.stop.ensures _ _)
