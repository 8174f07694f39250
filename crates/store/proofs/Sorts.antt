-- Strings and arrays by the header's word 0, by the object and by the tag: the three agree, by the relation's fields.
-- Assumes nothing.
use mathlib.Core.Path.{◌≡◌, refl, sym, ap, ◌∙◌}
use mathlib.Core.Bool.{true, false}
use mathlib.Core.List.{List, [], map}
use mathlib.Core.Option.{some}
use mathlib.Core.Logic.{⊎_elim}
use Prim.Native.Nat.{ℕ, suc, ◌+◌, ◌/◌, ◌%◌, ◌≤◌}
use native.Mathlib.Omega.{arith}
use lib.ListN.{length, get_or, get_elem?, get_or-eq_default}
use Rattle.semantics.specs.Values.{Value, null, Object, elements, text}
use Rattle.semantics.specs.Machine.{elements_of, bytes_of}
use Rattle.heap.specs.Word.{word}
use Rattle.heap.specs.Chain.{live}
use Rattle.heap.specs.Shape.{Ghost, Shape, size_unit}
use Rattle.heap.proofs.Shapes.{header_of}
use Rattle.heap.proofs.Falls.{true_false}
use Rattle.store.specs.Rep.{is_text, Stands, Names, object_at, element, Rep}
use Rattle.store.proofs.Standing.{text_elements, text_is, array_is, kind_at, is_string_lem, is_array, is_procedure_lem, null_names}
use Rattle.store.proofs.Places.{zero_or_suc}

-- Past the end of a list there is nothing.
pub no_name : (vs : List Value) (q i : ℕ) → length vs ≤ q → Names (get_or vs q null) i → ⊥
no_name vs q i l n = null_names n (get_or-eq_default vs null l)

pub no_object : (store : List Object) (j q i : ℕ) → length store ≤ j → Names (element store j q) i → ⊥
unfolding elements_of
no_object store j q i l n = null_names n (ap (λ o. get_or (elements_of o) q null) (get_or-eq_default store (elements []) l))

-- A string has no elements.
pub no_element : (store : List Object) (j q i : ℕ) → is_text (object_at store j) ≡ true → Names (element store j q) i → ⊥
no_element store j q i t n = no_name [] q i (omega arith) (rw (text_elements (object_at store j) t) at n)

module _ {keys : List (List ℕ)} {n : ℕ} {ρ : ℕ → ℕ} {g : Ghost} {m : List ℕ} {store : List Object} {roots : ℕ → Value} (R : Rep keys n ρ g m store roots) (h : ℕ) (l : g.own h ≡ live) where
  -- ---- from the object to the word

  pub array_word : {vs : List Value} → object_at store (ρ h) ≡ elements vs → word m h 0 ≡ 0
  array_word e = ⊎_elim (λ z. z) (λ z. absurd (true_false (sym (R.text h z.0 l z.1).0 ∙ ap is_text e))) (zero_or_suc (word m h 0))

  pub text_word : {bs : List ℕ} → object_at store (ρ h) ≡ text bs → word m h 0 ≡ suc (length bs)
  unfolding bytes_of
  text_word e = ⊎_elim (λ z. absurd (true_false (sym (ap is_text e) ∙ (R.array h l z).0)))
      (λ z. z.1 ∙ ap suc (sym (R.text h z.0 l z.1).1 ∙ ap (λ o. length (bytes_of o)) e)) (zero_or_suc (word m h 0))

  -- ---- from the word to the object

  pub word_array : word m h 0 ≡ 0 → (object_at store (ρ h) ≡ elements (elements_of (object_at store (ρ h)))) × (length (elements_of (object_at store (ρ h))) ≡ g.size (h + 2))
  word_array w = let x = R.array h l w in (array_is (object_at store (ρ h)) x.0, x.1)

  pub word_text : (max : ℕ) → word m h 0 ≡ suc max
      → (object_at store (ρ h) ≡ text (bytes_of (object_at store (ρ h)))) × (length (bytes_of (object_at store (ρ h))) ≡ max) × (g.size (h + 2) ≡ (max + 7) / 8)
  word_text max w = let x = R.text h max l w in (text_is (object_at store (ρ h)) x.0, x.1, x.2)

  -- An array's length is the lower part of the header's word 1.
  pub array_length : {e : ℕ} → Shape g e m → word m h 0 ≡ 0 → length (elements_of (object_at store (ρ h))) ≡ word m h 1 % size_unit
  array_length S w = (R.array h l w).1 ∙ sym (header_of S h l refl).0

  -- ---- from the tag to the word: a value whose payload is h

  module _ {v : Value} {tag : ℕ} (s : Stands keys (map is_text store) ρ v tag h) where
    pub string_word : tag ≡ 8 → (max : ℕ) × (word m h 0 ≡ suc max)
    string_word e = let x = is_string_lem s e in
        ⊎_elim (λ z. absurd (true_false (sym (kind_at store x.0 true x.3).1 ∙ ap (λ i. is_text (object_at store i)) (sym x.2) ∙ (R.array h l z).0)))
        (λ z. z) (zero_or_suc (word m h 0))

    array_kind : (i : ℕ) → ρ h ≡ i → get_elem? (map is_text store) i ≡ some false → word m h 0 ≡ 0
    array_kind i r e = ⊎_elim (λ z. z)
        (λ z. absurd (true_false (sym (R.text h z.0 l z.1).0 ∙ ap (λ i. is_text (object_at store i)) r ∙ (kind_at store i false e).1))) (zero_or_suc (word m h 0))

    pub array_tag_lem : tag ≡ 9 → word m h 0 ≡ 0
    array_tag_lem e = let x = is_array s e in array_kind x.0 x.2 x.3

    pub procedure_tag : tag ≡ 10 → word m h 0 ≡ 0
    procedure_tag e = let x = is_procedure_lem s e in array_kind x.0 x.2 x.3
