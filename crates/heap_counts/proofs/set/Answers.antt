-- `set` meets its contract: what the slot names lives, so the element may name it (`slot_lives`, `assigned`).
-- Assumes nothing.
use Rattle.heap_counts.proofs.Changes.{slot_lives, found, assigned}
use native.Mathlib.Omega.{arith}
use Rattle.heap_counts.proofs.set.Goals as goal

pub assign-requires : goal.assign-requires
assign-requires c = let P = c.requires in
    let E = found P _ c.find_element.ensures c.in-Some.is in
    ((_, _, _, _, P.full, E.2, E.3, E.4, λ t. absurd (omega arith)), P.clean)

pub returns-then-named-eq0 : goal.returns-then-named-eq0
returns-then-named-eq0 c = let P = c.requires in
    let E = found P _ c.find_element.ensures c.in-Some.is in
    assigned P E.0 E.1 E.2 E.3 E.4 (λ t. absurd (omega arith)) c.assign.ensures.0 c.assign.ensures.1

pub assign-requires-2 : goal.assign-requires-2
assign-requires-2 c = let P = c.requires in
    let E = found P _ c.find_element.ensures c.in-Some.is in
    ((_, _, _, _, P.full, E.2, E.3, E.4, λ t. slot_lives P c.args.b (omega (arith, c.if-slots-b.false)) (omega (arith, c.if-named-eq0.false))), P.clean)

pub returns : goal.returns
returns c = let P = c.requires in
    let E = found P _ c.find_element.ensures c.in-Some.is in
    assigned P E.0 E.1 E.2 E.3 E.4 (λ t. slot_lives P c.args.b (omega (arith, c.if-slots-b.false)) (omega (arith, c.if-named-eq0.false))) c.assign-2.ensures.0 c.assign-2.ensures.1
