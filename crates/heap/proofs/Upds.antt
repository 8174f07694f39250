-- A function changed at one place, by the two cases, at it and elsewhere; and sums, by induction on their length.
-- Assumes nothing.
use Prim.Native.Nat.{ℕ, zero, suc, ◌+◌, ◌≤◌, ◌<◌}
use mathlib.Core.Path.{◌≡◌, refl, ap, ◌∙◌}
use mathlib.Core.Bool.{Bool, true, false}
use mathlib.Core.Logic.{◌⊎◌, inl, inr, ⊎_elim}
use native.Mathlib.Decide.{ℕ_discrete}
use native.Mathlib.Omega.{arith}
use borrow.Author.Tests.{eq-eqb, ne_eqb}
use lib.Dec.{eqb}
use Rattle.heap.specs.Upd.{pick, upd, total}

pub pick_same : {X : Type 0} (c a : ℕ) (v w : X) → c ≡ a → pick (eqb c a) v w ≡ v
pick_same c a v w e = rw (eq-eqb c a e)

pub pick_other : {X : Type 0} (c a : ℕ) (v w : X) → (c ≡ a → ⊥) → pick (eqb c a) v w ≡ w
pick_other c a v w n = rw (ne_eqb c a n)

pub upd_at : {X : Type 0} (f : ℕ → X) (a : ℕ) (v : X) (c : ℕ) → c ≡ a → upd f a v c ≡ v
unfolding upd
upd_at f a v c = pick_same c a v (f c)

pub upd_same : {X : Type 0} (f : ℕ → X) (a : ℕ) (v : X) → upd f a v a ≡ v
upd_same f a v = upd_at f a v a refl

pub upd_other : {X : Type 0} (f : ℕ → X) (a : ℕ) (v : X) (c : ℕ) → (c ≡ a → ⊥) → upd f a v c ≡ f c
unfolding upd
upd_other f a v c = pick_other c a v (f c)

pub same? : (c a : ℕ) → (c ≡ a) ⊎ (c ≡ a → ⊥)
same? c a = go (ℕ_discrete c a)
  where
    go : Dec (c ≡ a) → (c ≡ a) ⊎ (c ≡ a → ⊥)
    go (yes e) = inl e
    go (no n) = inr n

-- what holds of v and of f c elsewhere holds after the change
pub at_upd : {X : Type 0} (P : X → Type 0) (f : ℕ → X) (a : ℕ) (v : X) (c : ℕ) → (c ≡ a → P v) → ((c ≡ a → ⊥) → P (f c)) → P (upd f a v c)
at_upd P f a v c p q = ⊎_elim (λ (e : c ≡ a). rw (upd_at f a v c e) (p e)) (λ (n : c ≡ a → ⊥). rw (upd_other f a v c n) (q n)) (same? c a)

-- what F does not tell apart at a it does not tell apart after the change
pub upd_keeps : {X Y : Type 0} (F : X → Y) (f : ℕ → X) (a : ℕ) (v : X) (c : ℕ) → F v ≡ F (f a) → F (upd f a v c) ≡ F (f c)
upd_keeps F f a v c k = at_upd (λ x. F x ≡ F (f c)) f a v c (λ e. k ∙ ap (λ z. F (f z)) (rw e)) (λ n. refl)

pub total_same : (f f' : ℕ → ℕ) (n : ℕ) → ((c : ℕ) → c < n → f' c ≡ f c) → total f' n ≡ total f n
unfolding total
total_same f f' zero h = refl
total_same f f' (suc n) h = omega (arith, total_same f f' n (λ c l. h c (omega arith)), h n (omega arith))

pub total_change : (f f' : ℕ → ℕ) (n p : ℕ) → p < n → ((c : ℕ) → (c ≡ p → ⊥) → f' c ≡ f c) → total f' n + f p ≡ total f n + f' p
unfolding total
total_change f f' zero p l h = absurd (omega arith)
total_change f f' (suc n) p l h = ⊎_elim
    (λ (e : n ≡ p). rw (← e) (omega (arith, total_same f f' n (λ c k. h c (λ q. omega arith)))))
    (λ (ne : n ≡ p → ⊥). omega (arith, total_change f f' n p (omega arith) h, h n ne)) (same? n p)

pub total_bound : (f : ℕ → ℕ) (n : ℕ) → ((c : ℕ) → f c ≤ 1) → total f n ≤ n
unfolding total
total_bound f zero h = omega arith
total_bound f (suc n) h = omega (arith, total_bound f n h, h n)

-- one change of f, seen through F
pub total_upd : {X : Type 0} (F : X → ℕ) (f : ℕ → X) (n p : ℕ) (v : X) → p < n → total (λ c. F (upd f p v c)) n + F (f p) ≡ total (λ c. F (f c)) n + F v
total_upd F f n p v l = total_change (λ c. F (f c)) (λ c. F (upd f p v c)) n p l (λ c ne. ap F (upd_other f p v c ne)) ∙ ap (λ x. total (λ c. F (f c)) n + F x) (upd_same f p v)

pub pick_zero : (b : Bool) → pick {X = ℕ} b 0 0 ≡ 0
pick_zero true = refl
pick_zero false = refl
