-- Skip words stay where cells go on lists and off them: a skip word leads to a lower rank, and only the first cell of a body comes off. And bodies of live
-- headers stay side by side where only cells of no body change.
-- Assumes nothing.
use Prim.Native.Nat.{ℕ, suc, ◌+◌, ◌/◌, ◌%◌, ◌≤◌, ◌<◌}
use mathlib.Core.Path.{◌≡◌, sym, ap, ◌∙◌}
use mathlib.Core.Bool.{Bool, false}
use mathlib.Core.List.{List}
use native.Mathlib.Omega.{arith}
use borrow.Author.Tests.{lt-ltb}
use Rattle.heap.specs.Word.{word}
use Rattle.heap.specs.Upd.{pick, upd}
use Rattle.heap.specs.Chain.{Owner, live, on}
use Rattle.heap.specs.Shape.{Ghost, Shape, Skip, is_body, header_mark, scattered}
use Rattle.heap.proofs.Upds.{upd_other, at_upd}

-- what body cells there are had their places and skip words before, and each stays but the first of its body
pub skips_keep : {g : Ghost} {e : ℕ} {m : List ℕ} → Shape g e m → (own : ℕ → Owner) (m' : List ℕ)
    → ((c s k : ℕ) → 2 ≤ s → own c ≡ on s k → (g.own c ≡ on s k) × (word m' c 3 ≡ word m c 3))
    → ((c s k : ℕ) → 2 ≤ s → g.own c ≡ on s k → suc k < g.size s → own c ≡ on s k)
    → (c s k : ℕ) → 2 ≤ s → own c ≡ on s (suc k) → Skip own s k (word m' c 3)
skips_keep S own m' was stays c s k l q =
    let b = was c s (suc k) l q in
    let K = S.skips c s k l b.0 in
    rw b.1 (record {
      lands = stays _ s _ l K.lands (omega (arith, K.lower, S.chains.above c s (suc k) b.0));
      lower = K.lower;
    })

-- no cell on a list gets the mark, but for dead headers
pub plain_keep : {g : Ghost} {e : ℕ} {m : List ℕ} → Shape g e m → (own : ℕ → Owner) (m' : List ℕ)
    → ((c s k : ℕ) → (s ≡ 1 → ⊥) → own c ≡ on s k → (g.own c ≡ on s k) × (word m' c 3 ≡ word m c 3))
    → (c s k : ℕ) → (s ≡ 1 → ⊥) → own c ≡ on s k → word m' c 3 < header_mark
plain_keep S own m' was c s k l q = let b = was c s k l q in rw b.1 (S.plain c s k l b.0)

no_body : (o : Owner) (s k : ℕ) → 2 ≤ s → is_body o ≡ false → o ≡ on s k → ⊥
no_body o s k l f q = omega (arith, ap (λ (b : Bool). pick {X = ℕ} b 1 0) (sym (lt-ltb 1 s l) ∙ ap is_body (sym q) ∙ f))

-- a cell that is in no body becomes another that is in none
module _ {g : Ghost} {e : ℕ} {m : List ℕ} (S : Shape g e m) (c : ℕ) (o v : Owner) (oc : g.own c ≡ o) (fo : is_body o ≡ false) (fv : is_body v ≡ false)
    (m' : List ℕ) (same : (x s k : ℕ) → g.own x ≡ on s k → word m' x 3 ≡ word m x 3) where
  was_body : (x s k : ℕ) → 2 ≤ s → upd g.own c v x ≡ on s k → (g.own x ≡ on s k) × (word m' x 3 ≡ word m x 3)
  was_body x s k l = at_upd (λ w. w ≡ on s k → (g.own x ≡ on s k) × (word m' x 3 ≡ word m x 3)) g.own c v x
      (λ r q. absurd (no_body v s k l fv q)) (λ r q. (q, same x s k q))

  pub skips_aside : (x s k : ℕ) → 2 ≤ s → upd g.own c v x ≡ on s (suc k) → Skip (upd g.own c v) s k (word m' x 3)
  skips_aside = skips_keep S (upd g.own c v) m' was_body
      (λ x s k l q _. upd_other g.own c v x (λ r. no_body o s k l fo (sym oc ∙ ap g.own (sym r) ∙ q)) ∙ q)

  pub plain_aside : ((s k : ℕ) → (s ≡ 1 → ⊥) → v ≡ on s k → word m' c 3 < header_mark) → (x s k : ℕ) → (s ≡ 1 → ⊥) → upd g.own c v x ≡ on s k → word m' x 3 < header_mark
  plain_aside new x s k n = at_upd (λ w. w ≡ on s k → word m' x 3 < header_mark) g.own c v x (λ r q. rw r (new s k n q)) (λ r q. rw (same x s k q) (S.plain x s k n q))

  -- it does not become a live header, and the lists of the bodies and words 1 stay
  pub side_aside : (v ≡ live → ⊥) → (top size : ℕ → ℕ) → ((h : ℕ) → top (h + 2) ≡ g.top (h + 2)) → ((h : ℕ) → size (h + 2) ≡ g.size (h + 2)) → ((h : ℕ) → word m' h 1 ≡ word m h 1)
      → (h d k : ℕ) → upd g.own c v h ≡ live → word m' h 1 / scattered % 2 ≡ 0 → upd g.own c v d ≡ on (h + 2) k → d + size (h + 2) ≡ top (h + 2) + suc k
  side_aside n top size tops sizes w h d k l b q =
      let l₁ = at_upd (λ x. x ≡ live → g.own h ≡ live) g.own c v h (λ r q. absurd (n q)) (λ r q. q) l in
      rw (sizes h, tops h) (S.side h d k l₁ (rw (w h) at b) (was_body d (h + 2) k (omega arith) q).0)
