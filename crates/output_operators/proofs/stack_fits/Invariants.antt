-- `stack_fits` meets its contract: the sum is the length of the text of the first i items, each with the byte after it.
-- Assumes nothing.
use Rattle.output_operators.proofs.Lines.{Summed}
use Prim.Native.Nat.{◌≤◌}
use Rattle.output_operators.proofs.stack_fits.Given as goal

abbrev pub invariant-loop-i : goal.invariant-loop-i
invariant-loop-i l = (l.i ≤ l.fn.m.depth) × (l.sum ≤ l.room) × Summed l.fn.m l.stack l.dict l.cells l.i l.sum
