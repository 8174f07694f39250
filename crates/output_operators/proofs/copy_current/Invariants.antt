-- `copy_current` meets its contract: the first q current bytes are written.
-- Assumes nothing.
use Rattle.output_operators.proofs.Copying.{Copied}
use Prim.Native.Nat.{◌≤◌}
use Rattle.output_operators.proofs.copy_current.Given as goal

abbrev pub invariant-loop-q : goal.invariant-loop-q
invariant-loop-q l = (l.q ≤ l.n) × Copied l.m l.stack l.cells l.q l.initial.log l.log
