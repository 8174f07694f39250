-- `release` meets its contract: each turn of the loop frees one cell and keeps what `Goes` says; the cells that are not free go down.
-- Assumes nothing.
use Prim.Native.Nat.{◌-◌}
use mathlib.Core.Path.{◌≡◌}
use Rattle.heap.specs.Shape.{cells}
use Rattle.heap.specs.Gone.{Goes, Sound}
use lib.ListN.{length}
use Rattle.heap.proofs.release.Given as goal

abbrev pub invariant-loop-t : goal.invariant-loop-t
invariant-loop-t l = (length l.m ≡ length l.initial.m) × Sound 0 l.t l.m × Goes 0 l.initial.t l.initial.m l.t l.m

abbrev pub decreases-loop-t : goal.decreases-loop-t
decreases-loop-t l = cells l.m - l.t.listed
