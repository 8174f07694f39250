-- `take` meets its contract: the first cell of the free list (`picks`), or the first that was never used (`edges`).
-- Assumes nothing.
use mathlib.Core.Path.{refl}
use native.Mathlib.Omega.{arith}
use Rattle.heap.proofs.Shapes.{room}
use Rattle.heap.proofs.Growing.{picks, edges}
use Rattle.heap.proofs.take.Goals as goal

pub get-next-requires : goal.get-next-requires
get-next-requires c = let P = c.requires in let X = picks P.0.3 c.if-s-eq0.false in (omega arith, room X.1.heap.shape _ X.2 refl)

pub returns-then-s-eq0 : goal.returns-then-s-eq0
returns-then-s-eq0 c = (omega arith, λ p hand g F. edges F c.if-s-eq0.true (omega arith), refl)

pub returns-else-s-eq0 : goal.returns-else-s-eq0
returns-else-s-eq0 c = (omega arith, λ p hand g F. rw c.get-next.ensures (picks F c.if-s-eq0.false), refl)
