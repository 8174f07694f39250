-- `find_element` meets its contract: what a slot names lives, so its header says how many elements there are, and `seek` finds the cell.
-- Assumes nothing.
use Rattle.heap.proofs.Shapes.{room, header_of}
use Rattle.heap_counts.proofs.Changes.{slot_lives, element_at}
use native.Mathlib.Omega.{arith}
use mathlib.Core.Path.{refl, sym, ◌∙◌}
use Rattle.heap_counts.proofs.find_element.Goals as goal

pub kind-requires : goal.kind-requires
kind-requires c = let P = c.requires in
    room P.full.heap.shape _ (slot_lives P c.args.slot (omega (arith, c.if-slots-slot.false)) (omega (arith, c.if-named-eq0.false))) refl

pub size-requires : goal.size-requires
size-requires c = let P = c.requires in
    room P.full.heap.shape _ (slot_lives P c.args.slot (omega (arith, c.if-slots-slot.false)) (omega (arith, c.if-named-eq0.false))) refl

pub seek-requires : goal.seek-requires
seek-requires c = let P = c.requires in
    let S = P.full.heap.shape in
    let l = slot_lives P c.args.slot (omega (arith, c.if-slots-slot.false)) (omega (arith, c.if-named-eq0.false)) in
    (_, _, S, l, omega (arith, (header_of S _ l refl).0, c.size.ensures, c.if-size-i.false))

pub returns : goal.returns
returns c = λ D. let S = D.full.heap.shape in
    let l = slot_lives D c.args.slot (omega (arith, c.if-slots-slot.false)) (omega (arith, c.if-named-eq0.false)) in
    element_at D _ _ _ l (sym c.kind.ensures ∙ c.if-kind-ne0.false) (omega (arith, (header_of S _ l refl).0, c.size.ensures, c.if-size-i.false)) c.seek.ensures
