-- `free_body_cell` meets its contract: the first body cell comes off and goes on the free list (`strips`); what it named is in hand and counted down.
-- Assumes nothing.
use Prim.Native.Nat.{◌+◌, ◌-◌}
use mathlib.Core.Path.{refl, ◌∙◌}
use native.Mathlib.Omega.{arith}
use Rattle.heap.proofs.Shapes.{room, header_of}
use Rattle.heap.proofs.Parts.{first_dead, sheds, strips, object, no_object, no_array}
use Rattle.heap.proofs.free_body_cell.Goals as goal

pub pop_body-b-requires : goal.pop_body-b-requires
pop_body-b-requires c = let P = c.requires in let F = P.0.2 in let S = F.heap.shape in let f = first_dead F P.1 in let h = header_of S _ f.2 refl in
    let n = c.args.n in
    let first = room S _ (S.chains.first (c.args.s.work + 2) (n - 1) (omega (arith, h.0, P.2, P.3))) refl in
    (P.3, room S _ f.2 refl, omega (arith, h.1, first))

pub get-kind-requires : goal.get-kind-requires
get-kind-requires c = let P = c.requires in let X = sheds P.0.2 P.1 P.2 P.3 c.pop_body-b.ensures in
    (omega arith, room X.1.heap.shape _ (first_dead X.1 P.1).2 refl)

pub get-tag-requires : goal.get-tag-requires
get-tag-requires c = let P = c.requires in
    let X = sheds P.0.2 P.1 P.2 P.3 c.pop_body-b.ensures in
    (omega arith, room X.1.heap.shape _ X.2 refl)

pub get-o-requires : goal.get-o-requires
get-o-requires c = let P = c.requires in
    let X = sheds P.0.2 P.1 P.2 P.3 c.pop_body-b.ensures in
    (omega arith, room X.1.heap.shape _ X.2 refl)

pub free_cell-t-requires : goal.free_cell-t-requires
free_cell-t-requires c = let P = c.requires in
    let X = sheds P.0.2 P.1 P.2 P.3 c.pop_body-b.ensures in (X.0, X.1.heap, X.2, X.5)

pub decrement-requires : goal.decrement-requires
decrement-requires c = let P = c.requires in
    let G = c.free_cell-t.ensures in
    let X = strips P.0.2 P.1 P.2 P.3 c.pop_body-b.ensures G.0 G.2 c.get-kind.ensures c.get-tag.ensures c.get-o.ensures in
    (P.0.0, X.0, rw (object _ c.get-tag.result _ c.if-kind-eq0.true (omega (arith, c.if-tag-ge-FIRST_OBJECT.true))) at X.1)

pub returns-then-tag-ge-FIRST_OBJECT : goal.returns-then-tag-ge-FIRST_OBJECT
returns-then-tag-ge-FIRST_OBJECT c = let P = c.requires in
    let G = c.free_cell-t.ensures in
    let L = c.decrement.ensures in (
      L.0 ∙ G.1,
      λ p g F.
          let X = strips F P.1 P.2 P.3 c.pop_body-b.ensures G.0 G.2 c.get-kind.ensures c.get-tag.ensures c.get-o.ensures in
          let Z = L.1 p X.0 (rw (object _ c.get-tag.result _ c.if-kind-eq0.true (omega (arith, c.if-tag-ge-FIRST_OBJECT.true))) at X.1) in
          (Z.0, Z.1, λ g₀ m₀ R. Z.2 g₀ m₀ (X.2 g₀ m₀ R), λ n. Z.3 (X.3 n)),
    )

pub returns-else-tag-ge-FIRST_OBJECT : goal.returns-else-tag-ge-FIRST_OBJECT
returns-else-tag-ge-FIRST_OBJECT c = let P = c.requires in
    let G = c.free_cell-t.ensures in (
      G.1,
      λ p g F.
          let X = strips F P.1 P.2 P.3 c.pop_body-b.ensures G.0 G.2 c.get-kind.ensures c.get-tag.ensures c.get-o.ensures in
          (X.0, rw (no_object _ c.get-tag.result _ c.if-kind-eq0.true (omega (arith, c.if-tag-ge-FIRST_OBJECT.false))) at X.1, X.2, X.3),
    )

pub returns-else-kind-eq0 : goal.returns-else-kind-eq0
returns-else-kind-eq0 c = let P = c.requires in
    let G = c.free_cell-t.ensures in (
      G.1,
      λ p g F.
          let X = strips F P.1 P.2 P.3 c.pop_body-b.ensures G.0 G.2 c.get-kind.ensures c.get-tag.ensures c.get-o.ensures in
          (X.0, rw (no_array _ _ _ c.if-kind-eq0.false) at X.1, X.2, X.3),
    )
