-- `share` meets its contract: the object is counted once more, in hand, and the empty slot takes it (`shared`).
-- Assumes nothing.
use Rattle.heap_counts.proofs.Changes.{shared, slot_lives}
use native.Mathlib.Omega.{arith}
use Rattle.heap_counts.proofs.share.Goals as goal

pub increment-requires : goal.increment-requires
increment-requires c = let P = c.requires in
    (_, _, _, P.full, λ _. slot_lives P c.args.a (omega (arith, c.if-slots-a.false)) (omega (arith, c.if-named-eq0.false)))

pub returns : goal.returns
returns c = let P = c.requires in
    shared P c.args.a c.args.b (omega (arith, c.if-slots-a.false)) (omega (arith, c.if-named-eq0.false)) (omega (arith, c.if-slots-b.false)) c.if-slots-b-ne0.false c.increment.auto.m c.increment.ensures.0
