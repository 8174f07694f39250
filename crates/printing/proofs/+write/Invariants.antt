-- `write` meets its contract, by recursion on the depth. The loop keeps that the first i elements are written, each with the byte after it.
-- Assumes nothing.
use Rattle.printing.proofs.Nesting.{Listed}
use Rattle.elements.proofs.Arrays.{Found}
use Prim.Native.Nat.{◌≤◌}
use Rattle.printing.proofs.+write.Given as goal

abbrev pub decreases-write : goal.decreases-write
decreases-write l = l.depth

abbrev pub invariant-loop-i : goal.invariant-loop-i
invariant-loop-i l = (l.i ≤ l.n) × Found l.cells l.pay l.i l.c × Listed l.dict l.cells l.tag l.pay l.depth l.i l.at l.initial.log l.log l.next
