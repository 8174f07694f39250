-- `copy_down` meets its contract: the loop keeps `Copied`, that the bytes from byte j on are copied.
-- Assumes nothing.
use Rattle.strings.proofs.Copying.{Copied}
use Prim.Native.Nat.{◌+◌, ◌-◌, ◌≤◌}
use Rattle.strings.proofs.copy_down.Given as goal

abbrev pub invariant-loop-j : goal.invariant-loop-j
invariant-loop-j l = (l.j ≤ l.n) × Copied l.to (l.at + l.j) l.from (l.start + l.j) (l.n - l.j) l.m l.stack l.initial.cells l.cells
