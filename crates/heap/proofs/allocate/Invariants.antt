-- `allocate` meets its contract: the loop keeps a heap in which the header has i body cells, each turn one more (`grows_trans`); n - i goes down.
-- Assumes nothing.
use Prim.Native.Nat.{◌+◌, ◌≤◌}
use mathlib.Core.Path.{◌≡◌}
use lib.ListN.{length}
use Rattle.heap.specs.Grow.{FineLive, Grew}
use Rattle.heap.proofs.allocate.Given as goal

abbrev pub invariant-loop-i : goal.invariant-loop-i
invariant-loop-i l = (l.i ≤ l.n) × (length l.m ≡ length l.initial.m) × (l.r.listed + l.initial.r.edge + l.i ≡ l.initial.r.listed + l.r.edge) × FineLive l.h l.r l.m × Grew l.i l.h l.initial.r l.initial.m l.r l.m × (l.r.dead ≡ l.initial.r.dead)
