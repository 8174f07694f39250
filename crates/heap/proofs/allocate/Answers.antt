-- `allocate` meets its contract: the loop keeps a heap in which the header has i body cells, each turn one more (`grows_trans`); n - i goes down.
-- Assumes nothing.
use mathlib.Core.Path.{◌≡◌, refl, ◌∙◌}
use native.Mathlib.Omega.{arith}
use Rattle.heap.proofs.Growing.{grows_trans, grows_refl}
use Rattle.heap.proofs.allocate.Goals as goal

pub new_header-t-requires : goal.new_header-t-requires
new_header-t-requires c = let P = c.requires in ((P.full.0, 0, P.full.1, P.full.2), omega arith)

pub loop-i-init : goal.loop-i-init
loop-i-init c = let P = c.requires.full in let X = c.new_header-t.ensures.1 P.0 P.1 P.2 in
    (omega arith, refl, omega arith, (P.0, _, X.0, X.1, X.3), λ p hand g F l. (g, F, grows_refl _ g _, l, omega arith, λ n. n, refl), refl)

pub prepend-r-requires : goal.prepend-r-requires
prepend-r-requires c = (
  c.loop-i.invariant.3,
  omega (
    arith,
    c.loop-i.invariant.1,
    c.loop-i.invariant.2,
    c.new_header-t.ensures.0,
    c.requires.room,
    c.new_header-t.auto.m,
  ),
)

pub loop-i-preserved : goal.loop-i-preserved
loop-i-preserved c = let I = c.loop-i.invariant in
    let W = c.prepend-r.ensures in
    let Q = I.3 in
    let X = W.1 Q.0 Q.1 Q.2 Q.3 Q.4 in (
      omega arith,
      c.prepend-r.auto.m ∙ I.1,
      omega (arith, W.0, I.2),
      (Q.0, Q.1, X.0, X.1, X.3),
      λ p hand g F l. let A = I.4 p hand g F l in let B = W.1 p hand A.0 A.1 A.3 in (B.0, B.1, grows_trans A.2 B.2 (λ _. A.3), B.3, omega (arith, A.4, B.4), λ n. B.5 (A.5 n), B.6 ∙ A.6),
      W.2 ∙ I.5,
    )

pub shape_of-m : goal.shape_of-m
shape_of-m c = c.loop-i.invariant.1 ∙ c.new_header-t.auto.m

pub returns : goal.returns
returns c = let I = c.loop-i.invariant in let H = c.new_header-t.ensures in
    let e : c.loop-i.i ≡ c.args.n = omega (arith, I.0) in (
      omega (arith, I.2, H.0),
      λ p g F. let A = H.1 p g F in let B = I.4 p _ A.0 A.1 A.3 in
          (B.0, B.1, grows_trans A.2 B.2 (λ _. A.3), B.3, omega (arith, B.4, A.4), B.2.kind A.3 ∙ A.5, A.6, λ n. B.5 (A.7 n), A.8, B.6 ∙ A.9),
      I.5 ∙ H.2,
    )
