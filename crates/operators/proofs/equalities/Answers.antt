-- `operators::equalities` meets its contract: eq and ne are named by their numbers.
-- Assumes nothing.
use mathlib.Core.Path.{refl}
use Rattle.operators.proofs.Named.{heap_named, equality_name}
use Rattle.operators.proofs.equalities.Goals as goal

pub returns : goal.returns
returns c = heap_named _ _ refl (equality_name _ c.requires.0 c.requires.1) c.compare.ensures
