-- `measure` meets its contract, by recursion on the depth. The loop keeps that the sum is the length of the opening bracket and the first i elements, each with the byte after it.
-- Assumes nothing.
use Rattle.printing.proofs.Nesting.{Summed}
use Rattle.elements.proofs.Arrays.{Found}
use Prim.Native.Nat.{◌≤◌}
use Rattle.printing.proofs.+measure.Given as goal

abbrev pub decreases-measure : goal.decreases-measure
decreases-measure l = l.depth

abbrev pub invariant-loop-i : goal.invariant-loop-i
invariant-loop-i l = (l.sum ≤ l.limit) × (l.i ≤ l.n) × Found l.cells l.pay l.i l.c × Summed l.dict l.cells l.tag l.pay l.depth l.i l.sum
