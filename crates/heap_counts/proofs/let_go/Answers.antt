-- `let_go` meets its contract: what the slot named is in hand, and is released (`releases`, `released`).
-- Assumes nothing.
use Rattle.heap_counts.proofs.Changes.{releases, released}
use native.Mathlib.Omega.{arith}
use Rattle.heap_counts.proofs.let_go.Goals as goal

pub release-requires : goal.release-requires
release-requires c = let P = c.requires in
    releases P c.args.slot (omega (arith, c.if-slots-slot.false)) (omega (arith, c.if-named-eq0.false))

pub returns : goal.returns
returns c = let P = c.requires in
    released P c.args.slot (omega (arith, c.if-slots-slot.false)) (omega (arith, c.if-named-eq0.false)) c.release.ensures.0 c.release.ensures.1
