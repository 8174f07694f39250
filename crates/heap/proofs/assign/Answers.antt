-- `assign` meets its contract: the new value is in hand, changes places with the old one (`swaps`), and that is released.
-- Assumes nothing.
use mathlib.Core.Path.{refl, ◌∙◌}
use native.Mathlib.Omega.{arith}
use Rattle.heap.proofs.Shapes.{room}
use Rattle.heap.proofs.Assigning.{swaps, stored, named, unnamed}
use Rattle.heap.proofs.assign.Goals as goal

pub value_of-old-requires : goal.value_of-old-requires
value_of-old-requires c = let P = c.requires.0 in room P.4.heap.shape _ P.5 refl

pub increment-requires : goal.increment-requires
increment-requires c = let P = c.requires.0 in (P.0, P.1, _, P.4, P.8)

pub put-requires : goal.put-requires
put-requires c = let P = c.requires.0 in
    (omega arith, rw c.increment.auto.m (room P.4.heap.shape _ P.5 refl))

pub put-requires-2 : goal.put-requires-2
put-requires-2 c = let P = c.requires.0 in
    (omega arith, rw (c.put.ensures.size, c.increment.auto.m) (room P.4.heap.shape _ P.5 refl))

pub release-requires : goal.release-requires
release-requires c = let I = c.requires.0 in
    let R = c.increment.ensures in
    let F₁ = R.0 I.0 I.1 _ I.4 I.8 in
    let F₂ = swaps I.2 F₁ I.5 (R.1 I.2 0 (omega arith) (λ z. omega arith) ∙ I.7) c.put.ensures c.put-2.ensures in
    let e = I.4.counts.body _ I.2 I.3 I.5 in
    let e₂ = named _ _ _ e I.7 c.value_of-old.ensures.0 c.value_of-old.ensures.1 (omega (arith, c.if-old-ge-FIRST_OBJECT.true)) in
    (I.0, _, rw e₂ at F₂)

pub returns-then-old-ge-FIRST_OBJECT : goal.returns-then-old-ge-FIRST_OBJECT
returns-then-old-ge-FIRST_OBJECT c = let R = c.increment.ensures in
    let P = c.put.ensures in
    let Q = c.put-2.ensures in (
      c.release.ensures.0,
      λ p g a k F oc la w al.
          let F₁ = R.0 p g _ F al in
          let F₂ = swaps a F₁ oc (R.1 a 0 (omega arith) (λ z. omega arith) ∙ w) P Q in
          let A = stored c.increment.auto.m R.1 P Q in
          let e = F.counts.body _ a k oc in
          let e₂ = named _ _ _ e w c.value_of-old.ensures.0 c.value_of-old.ensures.1 (omega (arith, c.if-old-ge-FIRST_OBJECT.true)) in
          let Z = c.release.ensures.1 p _ (rw e₂ at F₂) in
          (_, Z.0, F₂, A, Z.1, Z.2, λ n. Z.3 n),
    )

pub returns-else-old-ge-FIRST_OBJECT : goal.returns-else-old-ge-FIRST_OBJECT
returns-else-old-ge-FIRST_OBJECT c = let R = c.increment.ensures in
    let P = c.put.ensures in
    let Q = c.put-2.ensures in (
      c.requires.1,
      λ p g a k F oc la w al.
          let F₁ = R.0 p g _ F al in
          let F₂ = swaps a F₁ oc (R.1 a 0 (omega arith) (λ z. omega arith) ∙ w) P Q in
          let A = stored c.increment.auto.m R.1 P Q in
          let e = F.counts.body _ a k oc in
          let e₂ = unnamed _ _ _ e w c.value_of-old.ensures.0 (omega (arith, c.if-old-ge-FIRST_OBJECT.false)) in
          (_, _, F₂, A, rw e₂ at F₂, λ g₀ m₀ X. X, λ n. n),
    )
