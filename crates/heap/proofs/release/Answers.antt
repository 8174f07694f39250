-- `release` meets its contract: each turn of the loop frees one cell and keeps what `Goes` says; the cells that are not free go down.
-- Assumes nothing.
use mathlib.Core.Path.{refl, ◌∙◌}
use native.Mathlib.Omega.{arith}
use Rattle.heap.proofs.Shapes.{list_le}
use Rattle.heap.proofs.release.Goals as goal

pub decrement-t-requires : goal.decrement-t-requires
decrement-t-requires c = c.requires

pub loop-t-init : goal.loop-t-init
loop-t-init c = let P = c.requires in let L = c.decrement-t.ensures in let X = L.1 P.0 P.1 P.2 in
    (refl, (P.0, X.0, X.1), λ p g F. (g, F, λ g₀ m₀ R. R, λ n. n))

pub reclaim-t-requires : goal.reclaim-t-requires
reclaim-t-requires c = (c.loop-t.invariant.1, c.loop-t-test.true)

pub loop-t-smaller : goal.loop-t-smaller
loop-t-smaller c = let I = c.loop-t.invariant in let T = c.reclaim-t.ensures in let X = T.1 I.1.0 I.1.1 I.1.2 in
    omega (arith, T.0, X.1.heap.listed, list_le X.1.heap.shape 0, c.reclaim-t.auto.m)

pub loop-t-preserved : goal.loop-t-preserved
loop-t-preserved c = let I = c.loop-t.invariant in
    let T = c.reclaim-t.ensures in
    let X = T.1 I.1.0 I.1.1 I.1.2 in (
      c.reclaim-t.auto.m ∙ I.0,
      (I.1.0, X.0, X.1),
      λ p g F. let A = I.2 p g F in let Y = T.1 p A.0 A.1 in
          (Y.0, Y.1, λ g₀ m₀ R. Y.2 g₀ m₀ (A.2 g₀ m₀ R), λ n. Y.3 (A.3 n)),
    )

pub shape_of-m : goal.shape_of-m
shape_of-m c = c.loop-t.invariant.0 ∙ c.decrement-t.auto.m

pub returns : goal.returns
returns c = let I = c.loop-t.invariant in let L = c.decrement-t.ensures in
    (omega arith, λ p g F. let A = L.1 p g F in let Y = I.2 p A.0 A.1 in (Y.0, Y.1, λ g₀ m₀ R. Y.2 g₀ m₀ (A.2 g₀ m₀ R), λ n. Y.3 (A.3 n)))
