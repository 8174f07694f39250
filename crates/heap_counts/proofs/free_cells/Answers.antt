-- `free_cells` meets its contract: neither number is above the number of cells, so the sum fits.
-- Assumes nothing.
use Rattle.heap_counts.proofs.Changes.{listed_in, few}
use native.Mathlib.Omega.{arith}
use Rattle.heap_counts.proofs.free_cells.Goals as goal

pub overflow_add-result : goal.overflow_add-result
overflow_add-result c = omega (arith, listed_in c.requires, few c.requires)
