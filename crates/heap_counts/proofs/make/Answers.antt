-- `make` meets its contract: the new object is in hand, and the empty slot takes it (`made`).
-- Assumes nothing.
use Rattle.heap.proofs.Shapes.{inside}
use Rattle.heap_counts.proofs.Changes.{made, few}
use native.Mathlib.Omega.{arith}
use mathlib.Core.Path.{refl}
use Rattle.heap_counts.proofs.make.Goals as goal

pub overflow_add-slots : goal.overflow_add-slots
overflow_add-slots c = let P = c.requires in
    let Z = c.allocate-t.ensures.1 _ _ P.full in
    omega (arith, (inside Z.1.heap.shape _ Z.3 refl).0, few P, Z.2.long)

pub returns : goal.returns
returns c = let P = c.requires in
    made P _ (omega (arith, c.if-slots-slot.false)) c.if-slots-slot-ne0.false (omega arith) c.allocate-t.ensures.1 c.allocate-t.ensures.2
