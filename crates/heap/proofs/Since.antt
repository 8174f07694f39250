-- A release, step by step: what only dead objects named before a step is gone after it, by cases on who named it.
-- Assumes nothing.
use Prim.Native.Nat.{ℕ, suc, ◌+◌, ◌≤◌, ◌<◌}
use mathlib.Core.Path.{◌≡◌, refl, ap, ◌∙◌}
use mathlib.Core.Bool.{Bool, true, false}
use mathlib.Core.List.{List}
use mathlib.Core.Logic.{◌⊎◌, inl, inr, ⊎_elim}
use native.Mathlib.Omega.{arith}
use native.Mathlib.Decide.{dec_lt}
use borrow.Author.Tests.{ne_eqb}
use Rattle.heap.specs.Word.{word}
use Rattle.heap.specs.Chain.{Owner, fresh, live, out, on}
use Rattle.heap.specs.Shape.{Ghost, Shape, Header, Counts, Step, cells, is_head, is_body}
use Rattle.heap.specs.Gone.{Gone, gone, Since}
use Rattle.heap.proofs.Upds.{same?}
use Rattle.heap.proofs.Shapes.{bare}

pub true_or_false : (b : Bool) → (b ≡ true) ⊎ (b ≡ false)
true_or_false true = inl refl
true_or_false false = inr refl

pub lt_or_le : (a b : ℕ) → (a < b) ⊎ (b ≤ a)
lt_or_le a b = go (dec_lt a b)
  where
    go : Dec (a < b) → (a < b) ⊎ (b ≤ a)
    go (yes l) = inl l
    go (no n) = inr (omega arith)

module _ (p : ℕ) (g₀ : Ghost) (m₀ : List ℕ) (g : Ghost) (m : List ℕ) (g' : Ghost) (m' : List ℕ) (R : Since p g₀ m₀ g m) (T : Step p g m g' m') where
  aim_kept : (x a k : ℕ) → g₀.own x ≡ on (a + 2) k → g.own a ≡ live → g'.aim x ≡ g₀.aim x
  aim_kept x a k o l = let q = R.kept x a k o l in (T.body x a k (T.kept x a k q l)).1 ∙ (R.body x a k q).1

  roots' : (x : ℕ) → cells m₀ ≤ x → g'.aim x ≡ g₀.aim x
  roots' x l = T.roots x (rw R.long l) ∙ R.roots x l

  dead : (h : ℕ) → ((x : ℕ) → x < p → g'.aim x ≡ suc h → ⊥) → Gone p g₀ h
  dead h un = gone
      (λ x l q. ⊎_elim (λ (t : is_body (g₀.own x) ≡ true). t)
      (λ (f : is_body (g₀.own x) ≡ false). ⊎_elim (λ (i : x < cells m₀). absurd (omega (arith, q, R.start.other x i f)))
      (λ (i : cells m₀ ≤ x). absurd (un x l (roots' x i ∙ q))) (lt_or_le x (cells m₀)))
      (true_or_false (is_body (g₀.own x))))
      (λ x a k l q o. ⊎_elim (λ (b : g.own a ≡ live). absurd (un x l (aim_kept x a k o b ∙ q))) (λ (b : Gone p g₀ a). b) (R.dies a (R.start.ready x a k o)))

  pub then : Since p g₀ m₀ g' m'
  then = record {
    start = R.start;
    alive = λ h l. let a = T.alive h l in let b = R.alive h a.0 in (b.0, a.1 ∙ b.1, a.2 ∙ b.2, a.3 ∙ b.3, a.4 ∙ b.4);
    body = λ c a k o. let q = T.body c a k o in let r = R.body c a k q.0 in (r.0, q.1 ∙ r.1, q.2 ∙ r.2, q.3 ∙ r.3);
    kept = λ c a k o l. let l₁ = (T.alive a l).0 in T.kept c a k (R.kept c a k o l₁) l₁;
    roots = roots';
    dies = λ h l. ⊎_elim (λ (a : g.own h ≡ live). ⊎_elim (λ (b : g'.own h ≡ live). inl b) (λ un. inr (dead h un)) (T.dies h a)) (λ (b : Gone p g₀ h). inr b) (R.dies h l);
    long = T.long ∙ R.long;
  }

-- with no dead header, a release can start
module _ (p : ℕ) (g : Ghost) (e hand : ℕ) (m : List ℕ) (S : Shape g e m) (C : Counts g p hand m) (z : g.size 1 ≡ 0) where
  -- what has a body is a header, and a header that is not dead lives
  pub alive_of : (a k : ℕ) → k < g.size (a + 2) → g.own a ≡ live
  alive_of a k l = go (g.own a) refl (S.header a)
    where
      go : (o : Owner) → g.own a ≡ o → Header (is_head o) (g.size (a + 2)) (g.top (a + 2)) (word m a 1) (word m a 3) → g.own a ≡ live
      go fresh q h = absurd (omega arith)
      go live q h = q
      go out q h = absurd (omega arith)
      go (on s j) q h = ⊎_elim (λ (t : s ≡ 1). absurd (omega (arith, S.chains.above a s j q, ap g.size t)))
          (λ (t : s ≡ 1 → ⊥). absurd (omega (arith, bare S a (ap is_head q ∙ ne_eqb s 1 t)))) (same? s 1)

  pub begins : Since p g m g m
  begins = record {
    start = record { ready = λ c a k o. alive_of a k (S.chains.above c (a + 2) k o); other = C.other };
    alive = λ h l. (l, refl, refl, refl, refl);
    body = λ c a k o. (o, refl, refl, refl);
    kept = λ c a k o l. o;
    roots = λ x l. refl;
    dies = λ h l. inl l;
    long = refl;
  }
