-- `free_cells` meets its contract: the numbers are small (`few_cells`).
-- Assumes nothing.
use Rattle.elements.proofs.Making.{few_cells}
use native.Mathlib.Omega.{arith}
use Rattle.elements.proofs.free_cells.Goals as goal

pub overflow_add-result : goal.overflow_add-result
overflow_add-result c = omega (arith, few_cells c.requires.1.4)
