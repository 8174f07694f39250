-- `copy_up` meets its contract: the loop keeps `Copied`, that the first j bytes are copied.
-- Assumes nothing.
use Rattle.strings.proofs.Copying.{Copied}
use Prim.Native.Nat.{◌≤◌}
use Rattle.strings.proofs.copy_up.Given as goal

abbrev pub invariant-loop-j : goal.invariant-loop-j
invariant-loop-j l = (l.j ≤ l.n) × Copied l.to l.at l.from l.start l.j l.m l.stack l.initial.cells l.cells
