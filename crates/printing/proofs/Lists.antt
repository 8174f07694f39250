-- The text of a list of values, each with the byte after it: a blank, and another byte after the last. And an array's text, by that of its elements.
-- Assumes nothing.
use mathlib.Core.Path.{◌≡◌, refl, sym, ap, ◌∙◌}
use mathlib.Core.Bool.{Bool, true, false}
use mathlib.Core.List.{List, [], ◌∷◌, ◌++◌, map, append_assoc, append-nil}
use Prim.Native.Nat.{ℕ, zero, suc, ◌+◌, ◌-◌, ◌≤◌, ◌<◌}
use native.Mathlib.Omega.{arith}
use native.Mathlib.Numerals.{add-one}
use lib.ListN.{length, get_or, length-append}
use Rattle.semantics.specs.Text.{bytes}
use Rattle.semantics.specs.Values.{Value, null, array}
use Rattle.semantics.specs.Machine as Floo
use Rattle.semantics.specs.Machine.{object, elements_of}
use Rattle.semantics.specs.Printing.{joined, shown, echoed_to}
use Rattle.printing.specs.Shown.{byte_after, opening_of, short_text}

-- ---- the first elements

module _ (f : Value → List ℕ) (after : ℕ → ℕ) where
  -- The first i elements.
  unfoldable pub begun : ℕ → List Value → List ℕ
  begun zero vs = []
  begun (suc i) [] = []
  begun (suc i) (v ∷ vs) = f v ++ (after (length vs) ∷ begun i vs)

  begun_next : (i : ℕ) (vs : List Value)
      → i < length vs
      → begun (suc i) vs ≡ begun i vs ++ (f (get_or vs i null) ++ (after (length vs - suc i) ∷ []))
  unfolding begun
  begun_next i [] h = absurd (omega arith)
  begun_next zero (v ∷ vs) h =
      let e : length vs ≡ suc (length vs) - 1 = omega arith in
      ap (λ k. f v ++ (after k ∷ [])) e
  begun_next (suc i) (v ∷ vs) h =
      let e : length vs - suc i ≡ suc (length vs) - suc (suc i) = omega arith in
      let last : ℕ → List ℕ = λ k. f (get_or vs i null) ++ (after k ∷ []) in
      ap (λ (x : List ℕ). f v ++ (after (length vs) ∷ x)) (begun_next i vs (omega arith))
      ∙ sym (append_assoc (f v) (after (length vs) ∷ begun i vs) (last (length vs - suc i)))
      ∙ ap (λ k. f v ++ (after (length vs) ∷ begun i vs) ++ last k) e

  -- An element more.
  pub begun_more : (i : ℕ) (vs : List Value)
      → i < length vs
      → begun (i + 1) vs ≡ begun i vs ++ (f (get_or vs i null) ++ (after (length vs - (i + 1)) ∷ []))
  begun_more i vs h = rw (add-one i) (begun_next i vs h)

  pub begun_longer : (i : ℕ) (vs : List Value) → i < length vs → length (begun (i + 1) vs) ≡ length (begun i vs) + length (f (get_or vs i null)) + 1
  begun_longer i vs h =
      let last = after (length vs - (i + 1)) ∷ [] in
      omega (arith, ap length (begun_more i vs h), length-append (begun i vs) (f (get_or vs i null) ++ last), length-append (f (get_or vs i null)) last)

  -- All of them are at least as many.
  pub begun_part : (i : ℕ) (vs : List Value) → length (begun i vs) ≤ length (begun (length vs) vs)
  unfolding begun
  begun_part zero vs = omega arith
  begun_part (suc i) [] = omega arith
  begun_part (suc i) (v ∷ vs) =
      let a = after (length vs) in
      omega (arith, begun_part i vs, length-append (f v) (a ∷ begun i vs), length-append (f v) (a ∷ begun (length vs) vs))

  pub begun_all : ((k : ℕ) → after (suc k) ≡ 32) → (v : Value) (vs : List Value) → joined (bytes " ") (map f (v ∷ vs)) ++ (after 0 ∷ []) ≡ begun (length (v ∷ vs)) (v ∷ vs)
  unfolding begun joined bytes
  begun_all blank v [] = ap (λ (x : List ℕ). x ++ (after 0 ∷ [])) (append-nil (f v))
  begun_all blank v (w ∷ vs) =
      append_assoc (f v) (32 ∷ joined (bytes " ") (map f (w ∷ vs))) (after 0 ∷ [])
      ∙ ap (λ (x : List ℕ). f v ++ (32 ∷ x)) (begun_all blank w vs)
      ∙ ap (λ k. f v ++ (k ∷ begun (length (w ∷ vs)) (w ∷ vs))) (sym (blank (length vs)))

-- ---- an array's text

-- The tag of an array or a procedure.
unfoldable pub array_tag : Bool → ℕ
array_tag false = 9
array_tag true = 10

module _ (μ : Floo.Machine) (x : Bool) (id : ℕ) where
  abbrev vs : List Value
  vs = elements_of (object μ id)

  pub text_deep : echoed_to 0 μ (array x id) ≡ short_text (array_tag x) true
  unfolding echoed_to shown opening_of byte_after array_tag short_text bytes
  text_deep = by x
    where
      by : (x : Bool) → echoed_to 0 μ (array x id) ≡ short_text (array_tag x) true
      by true = refl
      by false = refl

  -- What is inside of the brackets.
  text_inside : (d : ℕ) → echoed_to (suc d) μ (array x id) ≡ opening_of (array_tag x) ∷ (joined (bytes " ") (map (echoed_to d μ) vs) ++ (byte_after (array_tag x) 0 ∷ []))
  unfolding echoed_to shown opening_of byte_after array_tag bytes
  text_inside d = by x
    where
      by : (x : Bool)
          → echoed_to (suc d) μ (array x id) ≡ opening_of (array_tag x) ∷ (joined (bytes " ") (map (echoed_to d μ) (elements_of (object μ id))) ++ (byte_after (array_tag x) 0 ∷ []))
      by true = refl
      by false = refl

  pub text_none : (d : ℕ) → length vs ≡ 0 → echoed_to (suc d) μ (array x id) ≡ short_text (array_tag x) false
  unfolding joined short_text
  text_none d z = text_inside d ∙ by vs z
    where
      by : (l : List Value)
          → length l ≡ 0
          → opening_of (array_tag x) ∷ (joined (bytes " ") (map (echoed_to d μ) l) ++ (byte_after (array_tag x) 0 ∷ [])) ≡ opening_of (array_tag x) ∷ byte_after (array_tag x) 0 ∷ []
      by [] z = refl
      by (v ∷ l) z = absurd (omega arith)

  pub text_some : (d : ℕ) → 0 < length vs → echoed_to (suc d) μ (array x id) ≡ opening_of (array_tag x) ∷ begun (echoed_to d μ) (byte_after (array_tag x)) (length vs) vs
  unfolding byte_after
  text_some d h = text_inside d ∙ by vs h
    where
      by : (l : List Value)
          → 0 < length l
          → opening_of (array_tag x) ∷ (joined (bytes " ") (map (echoed_to d μ) l) ++ (byte_after (array_tag x) 0 ∷ [])) ≡ opening_of (array_tag x) ∷ begun (echoed_to d μ) (byte_after (array_tag x)) (length l) l
      by [] h = absurd (omega arith)
      by (v ∷ l) h = ap (λ (t : List ℕ). opening_of (array_tag x) ∷ t) (begun_all (echoed_to d μ) (byte_after (array_tag x)) (λ k. refl) v l)
