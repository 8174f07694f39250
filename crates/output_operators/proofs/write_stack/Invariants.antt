-- `write_stack` meets its contract: the first i items are written, each with the byte after it.
-- Assumes nothing.
use Rattle.output_operators.proofs.Lines.{Lined}
use Prim.Native.Nat.{◌≤◌}
use Rattle.output_operators.proofs.write_stack.Given as goal

abbrev pub invariant-loop-i : goal.invariant-loop-i
invariant-loop-i l = (l.i ≤ l.fn.m.depth) × Lined l.fn.m l.stack l.dict l.cells l.i l.initial.log l.log l.next
