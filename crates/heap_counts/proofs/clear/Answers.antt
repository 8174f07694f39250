-- No slot names anything, as in a heap with no object.
-- Assumes nothing.
use mathlib.Core.Path.{ap, ◌∙◌}
use native.Mathlib.Omega.{arith}
use lib.ListN.{length, get_or}
use Rattle.std.proofs.lemmas.List.{get_or-replicate}
use Rattle.heap_counts.proofs.Changes.{starts}
use Rattle.heap_counts.proofs.clear.Goals as goal

pub returns : goal.returns
returns c = let filled = c.fill.ensures.after (λ y h. h) in
    starts c.fill.new.self _ c.fresh.ensures c.requires.0 (omega (arith, c.fill.ensures.len, c.requires.1))
    (λ k l. ap (λ xs. get_or xs k 0) filled ∙ get_or-replicate (length c.args.slots.now) k 0 0 (omega (arith, l, c.fill.ensures.len)))
