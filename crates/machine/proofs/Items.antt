-- The words of stack items: what stores above them leave, and what lies below some of them.
-- Assumes nothing.
use mathlib.Core.Path.{◌≡◌, refl, ap, subst}
use mathlib.Core.List.{List, [], ◌∷◌, ◌++◌}
use Prim.Native.Nat.{ℕ, zero, suc, ◌+◌, ◌*◌, ◌<◌}
use native.Mathlib.Omega.{arith}
use lib.ListN.{length, get_or, set}
use Rattle.semantics.specs.Values.{Value, null}
use Rattle.machine.specs.Words.{item_tag, item_payload}
use Rattle.machine.specs.Rep.{Items, bottom, item}

module _ {Is : Value → ℕ → ℕ → Type 0} where
  pub items_length : {words : List ℕ} {n : ℕ} {s : List Value} → Items Is words n s → length s ≡ n
  items_length bottom = refl
  items_length (item h i) = ap suc (items_length i)

  -- Words from place 2 n on are not looked at.
  pub items_frame : {words other : List ℕ} {n : ℕ} {s : List Value}
      → ((k : ℕ) → k < 2 * n → get_or other k 0 ≡ get_or words k 0)
      → Items Is words n s
      → Items Is other n s
  items_frame f bottom = bottom
  items_frame {other} f (item {n = n} {v = v} h i) =
      let both : Is v (item_tag other n) (item_payload other n) = rw (f (2 * n) (omega arith), f (2 * n + 1) (omega arith)) h in
      item both (items_frame (λ k l. f k (omega arith)) i)

  -- What lies below the front items.
  pub items_below : {words : List ℕ} (front : List Value) {s : List Value} {n : ℕ} (k : ℕ) → n ≡ k + length front → Items Is words n (front ++ s) → Items Is words k s
  items_below {words} [] {s} {n} k e i =
      let same : n ≡ k = omega arith in
      subst (λ x. Items Is words x s) same i
  items_below (v ∷ front) k e (item h i) = items_below front k (omega arith) i

  -- Item i from the top, of k + 1 + i, has the words of place k.
  pub item_at : {words : List ℕ} {n : ℕ} {s : List Value} → Items Is words n s → (i k : ℕ) → n ≡ k + suc i → Is (get_or s i null) (item_tag words k) (item_payload words k)
  item_at bottom i k e = absurd (omega arith)
  item_at {words} (item {n = n} {v = v} {s = s} h r) zero k e =
      let q : n ≡ k = omega arith in
      subst (λ x. Is v (item_tag words x) (item_payload words x)) q h
  item_at (item h r) (suc i) k e = item_at r i k (omega arith)

  -- The words of place k change, and so does item i.
  pub items_set : {words other : List ℕ} {n : ℕ} {s : List Value}
      → Items Is words n s
      → (i k : ℕ) {v : Value}
      → n ≡ k + suc i
      → Is v (item_tag other k) (item_payload other k)
      → ((j : ℕ) → (j ≡ 2 * k → ⊥) → (j ≡ 2 * k + 1 → ⊥) → get_or other j 0 ≡ get_or words j 0)
      → Items Is other n (set s i v)
  items_set bottom i k e h f = absurd (omega arith)
  items_set {other} (item {n = n} {s = s} h r) zero k {v} e new f =
      let q : k ≡ n = omega arith in
      let words : Is v (item_tag other n) (item_payload other n) = subst (λ x. Is v (item_tag other x) (item_payload other x)) q new in
      item words (items_frame (λ j l. f j (λ x. omega arith) (λ x. omega arith)) r)
  items_set {other} (item {n = n} {v = u} h r) (suc i) k e new f =
      let words : Is u (item_tag other n) (item_payload other n) =
      rw (f (2 * n) (λ x. omega arith) (λ x. omega arith), f (2 * n + 1) (λ x. omega arith) (λ x. omega arith)) h in
      item words (items_set r i k (omega arith) new f)
