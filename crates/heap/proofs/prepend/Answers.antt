-- `prepend` meets its contract: the cell that was taken is the new first cell of the body, and its skip word and the header's word 1 are right (`grown`).
-- Assumes nothing.
use Prim.Native.Nat.{◌+◌, ◌%◌}
use mathlib.Core.Path.{refl, sym, ap, ◌∙◌}
use native.Mathlib.Omega.{arith}
use Rattle.heap.proofs.Bodies.{grown}
use Rattle.heap.specs.Shape.{first_unit, size_unit}
use Rattle.heap.proofs.Walks.{first_is}
use Rattle.heap.proofs.Shapes.{inside, room, header_of, list_le}
use Rattle.heap.proofs.prepend.Goals as goal

pub get-first-requires : goal.get-first-requires
get-first-requires c = let F = c.requires.0 in (omega arith, room F.3.heap.shape _ F.4 refl)

pub get-w-requires : goal.get-w-requires
get-w-requires c = let F = c.requires.0 in (omega arith, room F.3.heap.shape _ F.4 refl)

pub skip_word-skip-requires : goal.skip_word-skip-requires
skip_word-skip-requires c = let F = c.requires.0 in
    let S = F.3.heap.shape in
    let words = header_of S _ F.4 refl in (
      F.2,
      _,
      c.args.h + 2,
      S,
      omega arith,
      sym words.0 ∙ ap (λ w. w % size_unit) (sym c.get-w.ensures),
      first_is S _ F.4 ∙ ap (λ w. w % first_unit) (sym c.get-first.ensures),
    )

pub init_cell-requires : goal.init_cell-requires
init_cell-requires c = let F = c.requires.0 in
    let X = c.take-t.ensures.1 F.0 F.1 F.2 F.3 in
    room X.1.heap.shape _ X.2 refl

pub overflow_add-c : goal.overflow_add-c
overflow_add-c c = let F = c.requires.0 in
    let X = c.take-t.ensures.1 F.0 F.1 F.2 F.3 in
    omega (arith, (inside X.1.heap.shape _ X.2 refl).0, X.1.heap.shape.few)

pub put-requires : goal.put-requires
put-requires c = let F = c.requires.0 in
    (omega arith, rw c.init_cell.ensures.size (room F.3.heap.shape _ F.4 refl))

pub longer-requires : goal.longer-requires
longer-requires c = let F = c.requires.0 in
    let S = F.3.heap.shape in
    (omega (arith, (header_of S _ F.4 refl).0, list_le S (c.args.h + 2), S.few, c.get-w.ensures), omega arith)

pub put-requires-2 : goal.put-requires-2
put-requires-2 c = let F = c.requires.0 in
    (omega arith, rw (c.put.ensures.size, c.init_cell.ensures.size) (room F.3.heap.shape _ F.4 refl))

pub returns : goal.returns
returns c = let taken = c.take-t.ensures in
    let skip = c.skip_word-skip.ensures in
    let filled = c.init_cell.ensures in
    let first = c.put.ensures in
    let sized = c.put-2.ensures in (
      taken.0,
      λ p hand g F l.
          grown F l taken.1 (ap (λ w. w % first_unit) c.get-first.ensures) c.get-w.ensures refl skip.0 skip.1 filled first sized c.longer.ensures,
      taken.2,
    )
