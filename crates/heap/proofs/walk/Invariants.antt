-- `walk` meets its contract: the cell has the rank that the loop counts, by the skip word or by the next word; the rank goes down.
-- Assumes nothing.
use Prim.Native.Nat.{ℕ, ◌+◌, ◌-◌, ◌≤◌}
use mathlib.Core.Path.{◌≡◌}
use Rattle.heap.specs.Shape.{Ghost, Shape}
use Rattle.heap.specs.Chain.{live, on}
use Rattle.heap.proofs.walk.Given as goal

abbrev pub invariant-loop-j : goal.invariant-loop-j
invariant-loop-j l = (l.rank ≤ l.j) × ((g : Ghost) (e : ℕ) → Shape g e l.m → g.own l.h ≡ live → g.own l.c ≡ on (l.h + 2) l.j)

abbrev pub decreases-loop-j : goal.decreases-loop-j
decreases-loop-j l = l.j - l.rank
