-- What ownership says of cells and of what they name: a chain has a cell at each rank, and what a place names is read from its words.
-- Assumes nothing.
use mathlib.Core.Path.{◌≡◌, refl, sym, ap}
use mathlib.Core.Bool.{true, false}
use mathlib.Core.List.{List}
use mathlib.Core.Logic.{◌⊎◌, inl, inr, ⊎_elim}
use Prim.Native.Nat.{ℕ, zero, suc, ◌+◌, ◌-◌, ◌/◌, ◌%◌, ◌≤◌, ◌<◌}
use native.Mathlib.Omega.{arith}
use borrow.Author.Tests.{ltb-true}
use Rattle.heap.specs.Word.{word}
use Rattle.heap.specs.Upd.{total}
use Rattle.heap.specs.Chain.{Owner, fresh, live, out, on, Chains}
use Rattle.heap.specs.Shape.{is_body, is_fresh, is, target}
use Rattle.heap.proofs.Upds.{same?}
use Rattle.heap.proofs.Falls.{is_other, true_false}
use Rattle.heap.proofs.Since.{lt_or_le}
use Rattle.heap.proofs.Parts as parts
use Rattle.store.specs.Rep.{byte_of}

pub zero_or_suc : (w : ℕ) → (w ≡ 0) ⊎ ((k : ℕ) × (w ≡ suc k))
zero_or_suc zero = inl refl
zero_or_suc (suc k) = inr (k, refl)

-- d links on from t.
unfoldable pub down : (ℕ → ℕ) → ℕ → ℕ → ℕ
down nxt zero t = t
down nxt (suc d) t = nxt (down nxt d t)

-- List s has a cell at each rank: from the first, d cells down.
pub down_at : (own : ℕ → Owner) (top size nxt : ℕ → ℕ) → Chains own top size nxt → (s d k : ℕ) → size s ≡ d + suc k → own (down nxt d (top s)) ≡ on s k
unfolding down
down_at own top size nxt K s zero k z = K.first s k (omega arith)
down_at own top size nxt K s (suc d) k z = K.link (down nxt d (top s)) s k (down_at own top size nxt K s d (suc k) (omega arith))

pub fresh_body : (o : Owner) → is_fresh o ≡ true → is_body o ≡ false
fresh_body fresh q = refl
fresh_body live q = refl
fresh_body out q = refl
fresh_body (on s k) q = absurd (true_false (sym q))

-- A body cell is one of some header.
pub body_of : (o : Owner) → is_body o ≡ true → (a : ℕ) × (k : ℕ) × (o ≡ on (a + 2) k)
body_of fresh q = absurd (true_false (sym q))
body_of live q = absurd (true_false (sym q))
body_of out q = absurd (true_false (sym q))
body_of (on s k) q = (s - 2, k, ap (λ z. on z k) (omega (arith, ltb-true 1 s q)))

-- What a body cell names, read back.
pub aims_at : (kind tag pay h : ℕ) → target kind tag pay ≡ suc h → (kind ≡ 0) × (8 ≤ tag) × (pay ≡ h)
aims_at kind tag pay h e = ⊎_elim
    (λ (k : kind ≡ 0). ⊎_elim (λ (t : tag < 8). absurd (omega (arith, e, parts.no_object kind tag pay k t)))
    (λ (t : 8 ≤ tag). (k, t, omega (arith, e, parts.object kind tag pay k t))) (lt_or_le tag 8))
    (λ (k : kind ≡ 0 → ⊥). absurd (omega (arith, e, parts.no_array kind tag pay k))) (same? kind 0)

-- A sum that is not 0 has a term that is not 0.
pub total_some : (f : ℕ → ℕ) (n : ℕ) → 1 ≤ total f n → (x : ℕ) × (x < n) × (1 ≤ f x)
unfolding total
total_some f zero l = absurd (omega arith)
total_some f (suc n) l = ⊎_elim
    (λ (q : 0 < total f n). let r = total_some f n q in (r.0, omega (arith, r.1), r.2))
    (λ (q : total f n ≤ 0). (n, omega arith, omega arith)) (lt_or_le 0 (total f n))

pub is_suc : (h t : ℕ) → 1 ≤ is h t → t ≡ suc h
is_suc h t l = ⊎_elim (λ (q : t ≡ suc h). q) (λ (q : t ≡ suc h → ⊥). absurd (omega (arith, is_other h t q))) (same? t (suc h))

-- What holds of words 0 and 1 holds of the word that has byte j.
pub either_word : (P : ℕ → Type 0) → P 0 → P 1 → (j : ℕ) → j < 8 → P (j / 4)
either_word P a b j l = ⊎_elim (λ (z : j / 4 ≡ 0). rw z a) (λ z. let o : j / 4 ≡ 1 = omega (arith, z.1) in rw o b) (zero_or_suc (j / 4))

pub byte_same : (m m' : List ℕ) (c j : ℕ) → j < 8 → word m' c 0 ≡ word m c 0 → word m' c 1 ≡ word m c 1 → byte_of (word m' c (j / 4)) (j % 4) ≡ byte_of (word m c (j / 4)) (j % 4)
byte_same m m' c j l a b = either_word (λ u. byte_of (word m' c u) (j % 4) ≡ byte_of (word m c u) (j % 4)) (ap (λ y. byte_of y (j % 4)) a) (ap (λ y. byte_of y (j % 4)) b) j l
