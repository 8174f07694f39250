-- `increment` meets its contract: the count of what the value names goes up and the object is in hand (`rises`); it is at most the number of places.
-- Assumes nothing.
use mathlib.Core.Path.{refl}
use native.Mathlib.Omega.{arith}
use Rattle.heap.proofs.Shapes.{room}
use Rattle.heap.proofs.Parts.{object, no_object}
use Rattle.heap.proofs.Assigning.{rises, count_le}
use Rattle.heap.proofs.increment.Goals as goal

pub get-n-requires : goal.get-n-requires
get-n-requires c = let P = c.requires in (omega arith, room P.3.heap.shape _ (P.4 c.if-tag-ge-FIRST_OBJECT.true) refl)

pub overflow_add-n : goal.overflow_add-n
overflow_add-n c = let P = c.requires in omega (arith, c.get-n.ensures, count_le P.3.counts _ (P.4 c.if-tag-ge-FIRST_OBJECT.true))

pub put-requires : goal.put-requires
put-requires c = let P = c.requires in (omega arith, room P.3.heap.shape _ (P.4 c.if-tag-ge-FIRST_OBJECT.true) refl)

pub returns-then-tag-ge-FIRST_OBJECT : goal.returns-then-tag-ge-FIRST_OBJECT
returns-then-tag-ge-FIRST_OBJECT c = (
  λ p g s F a. let l = c.if-tag-ge-FIRST_OBJECT.true in rw (object 0 _ _ refl l) (rises F (a l) (rw c.get-n.ensures at c.put.ensures)),
  λ x u l n. c.put.ensures.there x u l (λ _ q. n q),
)

pub returns-else-tag-ge-FIRST_OBJECT : goal.returns-else-tag-ge-FIRST_OBJECT
returns-else-tag-ge-FIRST_OBJECT c = (λ p g s F a. rw (no_object 0 _ _ refl c.if-tag-ge-FIRST_OBJECT.false) F, λ x u l n. refl)
