-- `copy` meets its contract: what the one element names lives, so the other may name it (`element_lives`, `assigned`).
-- Assumes nothing.
use Rattle.heap_counts.proofs.Changes.{element_lives, found, assigned}
use Rattle.heap.proofs.Shapes.{room}
use native.Mathlib.Omega.{arith}
use mathlib.Core.Path.{refl}
use Rattle.heap_counts.proofs.copy.Goals as goal

pub value_of-new-requires : goal.value_of-new-requires
value_of-new-requires c = let P = c.requires in
    room P.full.heap.shape _ (found P _ c.find_element-2.ensures c.in-Some-find_element.is).2 refl

pub assign-requires : goal.assign-requires
assign-requires c = let P = c.requires in
    let E = found P _ c.find_element.ensures c.in-Some.is in
    let B = found P _ c.find_element-2.ensures c.in-Some-find_element.is in
    ((_, _, _, _, P.full, E.2, E.3, E.4, element_lives P _ B.0 B.1 B.2 B.4 c.value_of-new.ensures.0 c.value_of-new.ensures.1), P.clean)

pub returns : goal.returns
returns c = let P = c.requires in
    let E = found P _ c.find_element.ensures c.in-Some.is in
    let B = found P _ c.find_element-2.ensures c.in-Some-find_element.is in
    assigned P E.0 E.1 E.2 E.3 E.4 (element_lives P _ B.0 B.1 B.2 B.4 c.value_of-new.ensures.0 c.value_of-new.ensures.1) c.assign.ensures.0 c.assign.ensures.1
