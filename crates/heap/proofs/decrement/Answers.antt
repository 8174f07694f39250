-- `decrement` meets its contract: the object in hand lives on with a lower count (`lives`), or goes on the list of dead headers (`dies`).
-- Assumes nothing.
use mathlib.Core.Path.{refl, sym, ◌∙◌}
use native.Mathlib.Omega.{arith}
use Rattle.heap.proofs.Shapes.{room, list_lt}
use Rattle.heap.proofs.Falls.{is_same}
use Rattle.heap.proofs.Parts.{lives, dies}
use Rattle.heap.proofs.decrement.Goals as goal

pub get-count-requires : goal.get-count-requires
get-count-requires c = let F = c.requires.2 in (omega arith, room F.heap.shape _ (F.counts.held _ refl) refl)

pub put-requires : goal.put-requires
put-requires c = let F = c.requires.2 in (omega arith, room F.heap.shape _ (F.counts.held _ refl) refl)

pub overflow_add-result : goal.overflow_add-result
overflow_add-result c = let F = c.requires.2 in omega (arith, list_lt F.heap.shape 1 _ (F.counts.held _ refl) refl refl, F.heap.dead, F.heap.shape.few)

pub overflow_sub-count : goal.overflow_sub-count
overflow_sub-count c = let F = c.requires.2 in omega (arith, c.get-count.ensures, F.counts.count _ (F.counts.held _ refl), is_same c.args.o _ refl)

pub put-requires-else-count-eq1 : goal.put-requires-else-count-eq1
put-requires-else-count-eq1 c = let F = c.requires.2 in (omega arith, room F.heap.shape _ (F.counts.held _ refl) refl)

pub returns-then-count-eq1 : goal.returns-then-count-eq1
returns-then-count-eq1 c = (refl, λ p g F. let r = dies F (sym c.get-count.ensures ∙ c.if-count-eq1.true) c.put.ensures in (_, r.0, r.1, r.2))

pub returns-else-count-eq1 : goal.returns-else-count-eq1
returns-else-count-eq1 c = (
  refl,
  λ p g F. let r = lives F (omega (
    arith,
    c.get-count.ensures,
    F.counts.count _ (F.counts.held _ refl),
    is_same c.args.o _ refl,
  )) (let n = c.if-count-eq1.false in omega (
    arith,
    c.get-count.ensures,
    F.counts.some _ (F.counts.held _ refl),
  )) c.put-else-count-eq1.ensures in (_, r.0, r.1, r.2),
)
