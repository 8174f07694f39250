-- Equal words and equal keys: two values of one kind have the same key where their payloads agree, and, strings aside, nowhere else. By cases on what the
-- two words of a value say.
-- Assumes nothing.
use mathlib.Core.Path.{◌≡◌, refl, sym, ap, ◌∙◌, subst}
use mathlib.Core.Bool.{Bool, true, false}
use mathlib.Core.List.{List, [], ◌∷◌, map}
use mathlib.Core.Logic.{⊎_elim}
use mathlib.Core.Option.{some}
use Prim.Native.Nat.{ℕ, zero, suc}
use native.Mathlib.Omega.{arith}
use borrow.Author.Tests.{ne_eqb}
use lib.ListN.{get_or, get_elem?}
use Rattle.semantics.specs.Text.{same}
use Rattle.semantics.specs.Values.{Value, string, current}
use Rattle.semantics.specs.Machine as Floo
use Rattle.semantics.specs.Machine.{object, bytes_of}
use Rattle.semantics.specs.NumberOperators.{key}
use Rattle.semantics.specs.Operators.{Entry, table}
use Rattle.semantics.specs.ListLaws.{get_d_known}
use Rattle.semantics.specs.NameLaws.{operators_differ}
use Rattle.semantics.specs.SameLaws.{same_refl, same_equal}
use Rattle.heap.specs.Chain.{live}
use Rattle.heap.specs.Shape.{Ghost}
use Rattle.heap.specs.Assign.{Alives}
use Rattle.store.specs.Rep.{titles, Stands, a_null, an_integer, a_boolean, a_mark, an_operator, a_literal, an_executable, a_string, an_array, a_procedure}
use Rattle.semantics.specs.NameLaws.{Distinct}
use Rattle.heap.proofs.Upds.{same?}
use Rattle.store.proofs.Standing.{is_string_lem}
use Rattle.machine.specs.Moves.{tag_as}
use Rattle.semantics.specs.NameLaws.{distinct}

-- ---- the same bytes

pub same_true : {k l : List ℕ} → k ≡ l → same k l ≡ true
same_true {k} e = ap (same k) (sym e) ∙ same_refl k

pub same_false : (k l : List ℕ) → (k ≡ l → ⊥) → same k l ≡ false
same_false k l n = by (same k l) refl
  where
    by : (b : Bool) → same k l ≡ b → b ≡ false
    by true e = absurd (n (same_equal k l e))
    by false e = refl

-- ---- no operator has two names

pub titles_distinct : Distinct titles
unfolding titles
titles_distinct = distinct (map (λ (e : Entry). e.title) table) operators_differ

-- ---- keys by kind and payload

-- The kind, from the head of a key.
abbrev kind_at : ℕ → ℕ
kind_at h = get_or (1 ∷ 2 ∷ 0 ∷ 3 ∷ 4 ∷ 5 ∷ 8 ∷ 9 ∷ []) h 0

module _ (τ : Floo.Machine) (keys : List (List ℕ)) (ρ : ℕ → ℕ) where
  -- The key of a value of this kind, by tag, with this payload.
  abbrev key_from : ℕ → ℕ → List ℕ
  key_from kind p =
      get_or
      ((2 ∷ [])
      ∷ (0 ∷ p ∷ [])
      ∷ (1 ∷ p ∷ [])
      ∷ (3 ∷ [])
      ∷ (4 ∷ get_or titles p [])
      ∷ (5 ∷ get_or keys p [])
      ∷ []
      ∷ []
      ∷ (6 ∷ current (bytes_of (object τ (ρ p))))
      ∷ (7 ∷ ρ p ∷ [])
      ∷ [])
      kind []

  key_from_lem : {texts : List Bool} {v : Value} {t p : ℕ} → Stands keys texts ρ v t p → key τ v ≡ key_from (tag_as false t) p
  unfolding key tag_as
  key_from_lem a_null = refl
  key_from_lem an_integer = refl
  key_from_lem (a_boolean {b = true}) = refl
  key_from_lem (a_boolean {b = false}) = refl
  key_from_lem a_mark = refl
  key_from_lem (an_operator {o = o} {q = q} e) = ap (λ (l : List ℕ). 4 ∷ l) (sym (get_d_known titles q [] e))
  key_from_lem (a_literal {n = n} {q = q} e) = ap (λ (l : List ℕ). 5 ∷ l) (sym (get_d_known keys q [] e))
  key_from_lem (an_executable {n = n} {q = q} e) = ap (λ (l : List ℕ). 5 ∷ l) (sym (get_d_known keys q [] e))
  key_from_lem (a_string r e) = ap (λ i. 6 ∷ current (bytes_of (object τ i))) (sym r)
  key_from_lem (an_array r e) = ap (λ i. 7 ∷ i ∷ []) (sym r)
  key_from_lem (a_procedure r e) = ap (λ i. 7 ∷ i ∷ []) (sym r)

  key_kind : {texts : List Bool} {v : Value} {t p : ℕ} → Stands keys texts ρ v t p → tag_as false t ≡ kind_at (get_or (key τ v) 0 0)
  unfolding key tag_as
  key_kind a_null = refl
  key_kind an_integer = refl
  key_kind (a_boolean {b = true}) = refl
  key_kind (a_boolean {b = false}) = refl
  key_kind a_mark = refl
  key_kind (an_operator e) = refl
  key_kind (a_literal e) = refl
  key_kind (an_executable e) = refl
  key_kind (a_string r e) = refl
  key_kind (an_array r e) = refl
  key_kind (a_procedure r e) = refl

-- ---- a payload, by the key

-- What the rest of a key says of the payload, by the key's head.
abbrev Recalls : List (List ℕ) → (ℕ → ℕ) → Ghost → ℕ → List ℕ → ℕ → Type 0
Recalls keys ρ g zero l p = l ≡ p ∷ []
Recalls keys ρ g (suc zero) l p = l ≡ p ∷ []
Recalls keys ρ g (suc (suc zero)) l p = Unit {0}
Recalls keys ρ g (suc (suc (suc zero))) l p = Unit {0}
Recalls keys ρ g (suc (suc (suc (suc zero)))) l p = get_elem? titles p ≡ some l
Recalls keys ρ g (suc (suc (suc (suc (suc zero))))) l p = get_elem? keys p ≡ some l
Recalls keys ρ g (suc (suc (suc (suc (suc (suc zero)))))) l p = Unit {0}
Recalls keys ρ g (suc (suc (suc (suc (suc (suc (suc h))))))) l p = (l ≡ ρ p ∷ []) × (g.own p ≡ live)

-- A key that is a value's.
record Keyed (τ : Floo.Machine) (keys : List (List ℕ)) (ρ : ℕ → ℕ) (g : Ghost) (v : Value) (t p : ℕ) : Type 0 where
  head : ℕ
  rest : List ℕ
  whole : key τ v ≡ head ∷ rest
  recalls : Recalls keys ρ g head rest p

keyed : (τ : Floo.Machine) {keys : List (List ℕ)} {texts : List Bool} {ρ : ℕ → ℕ} {g : Ghost} {v : Value} {t p : ℕ}
    → Stands keys texts ρ v t p
    → Alives g t p
    → Keyed τ keys ρ g v t p
unfolding key
keyed τ a_null a = record { head = 2; rest = []; whole = refl; recalls = tt }
keyed τ (an_integer {w = w}) a = record { head = 0; rest = w ∷ []; whole = refl; recalls = refl }
keyed τ (a_boolean {b = true}) a = record { head = 1; rest = 1 ∷ []; whole = refl; recalls = refl }
keyed τ (a_boolean {b = false}) a = record { head = 1; rest = 0 ∷ []; whole = refl; recalls = refl }
keyed τ a_mark a = record { head = 3; rest = []; whole = refl; recalls = tt }
keyed τ (an_operator {o = o} e) a = record { head = 4; rest = o; whole = refl; recalls = e }
keyed τ (a_literal {n = n} e) a = record { head = 5; rest = n; whole = refl; recalls = e }
keyed τ (an_executable {n = n} e) a = record { head = 5; rest = n; whole = refl; recalls = e }
keyed τ (a_string r e) a = record { head = 6; rest = _; whole = refl; recalls = tt }
keyed τ (an_array {i = i} r e) a = record { head = 7; rest = i ∷ []; whole = refl; recalls = (ap (λ j. j ∷ []) (sym r), a (omega arith)) }
keyed τ (a_procedure {i = i} r e) a = record { head = 7; rest = i ∷ []; whole = refl; recalls = (ap (λ j. j ∷ []) (sym r), a (omega arith)) }

first_number : {a b : ℕ} {k l : List ℕ} → ◌≡◌ {A = List ℕ} (a ∷ k) (b ∷ l) → a ≡ b
first_number e = cc

later_numbers : {a b : ℕ} {k l : List ℕ} → ◌≡◌ {A = List ℕ} (a ∷ k) (b ∷ l) → k ≡ l
later_numbers e = cc

module _ (keys : List (List ℕ)) (ρ : ℕ → ℕ) (g : Ghost) (names : Distinct keys) (one : (h i : ℕ) → g.own h ≡ live → g.own i ≡ live → ρ h ≡ ρ i → h ≡ i) where
  recalled : (h : ℕ) (l : List ℕ) (p q : ℕ) → (h ≡ 2 → ⊥) → (h ≡ 3 → ⊥) → (h ≡ 6 → ⊥) → Recalls keys ρ g h l p → Recalls keys ρ g h l q → p ≡ q
  recalled zero l p q a b c x y = first_number (sym x ∙ y)
  recalled (suc zero) l p q a b c x y = first_number (sym x ∙ y)
  recalled (suc (suc zero)) l p q a b c x y = absurd (a refl)
  recalled (suc (suc (suc zero))) l p q a b c x y = absurd (b refl)
  recalled (suc (suc (suc (suc zero)))) l p q a b c x y = titles_distinct p q l x y
  recalled (suc (suc (suc (suc (suc zero))))) l p q a b c x y = names p q l x y
  recalled (suc (suc (suc (suc (suc (suc zero)))))) l p q a b c x y = absurd (c refl)
  recalled (suc (suc (suc (suc (suc (suc (suc h))))))) l p q a b c x y = one p q x.1 y.1 (first_number (sym x.0 ∙ y.0))

-- ---- two values

kind_string : (t : ℕ) → tag_as false t ≡ 8 → t ≡ 8
unfolding tag_as
kind_string t e =
    ⊎_elim
    (λ (q : t ≡ 6). let z : tag_as false 6 ≡ 8 = subst (λ x. tag_as false x ≡ 8) q e in absurd (omega (arith, z)))
    (λ (n : t ≡ 6 → ⊥). ⊎_elim
    (λ (q : t ≡ 10). let z : tag_as false 10 ≡ 8 = subst (λ x. tag_as false x ≡ 8) q e in absurd (omega (arith, z)))
    (λ (k : t ≡ 10 → ⊥). rw (ne_eqb t 6 n, ne_eqb t 10 k) at e) (same? t 10)) (same? t 6)

module _ (τ : Floo.Machine) {keys : List (List ℕ)} {texts : List Bool} {ρ : ℕ → ℕ} {x y : Value} {t p u q : ℕ} (X : Stands keys texts ρ x t p) (Y : Stands keys texts ρ y u q) where
  pub kinds_differ : (tag_as false t ≡ tag_as false u → ⊥) → false ≡ same (key τ x) (key τ y)
  kinds_differ n =
      sym (same_false (key τ x) (key τ y)
      (λ e. n (key_kind τ keys ρ X ∙ ap (λ (k : List ℕ). kind_at (get_or k 0 0)) e ∙ sym (key_kind τ keys ρ Y))))

  module _ (kinds : tag_as false t ≡ tag_as false u) where
    -- The key of y, by the kind of x.
    key_y : key τ y ≡ key_from τ keys ρ (tag_as false t) q
    key_y = key_from_lem τ keys ρ Y ∙ ap (λ k. key_from τ keys ρ k q) (sym kinds)

    pub words_agree : p ≡ q → true ≡ same (key τ x) (key τ y)
    words_agree e = sym (same_true (key_from_lem τ keys ρ X ∙ ap (λ k. key_from τ keys ρ (tag_as false t) k) e ∙ sym key_y))

    pub both_null : tag_as false t ≡ 0 → true ≡ same (key τ x) (key τ y)
    both_null z =
        sym (same_true (key_from_lem τ keys ρ X ∙ ap (λ k. key_from τ keys ρ k p) z ∙ sym (key_y ∙ ap (λ k. key_from τ keys ρ k q) z)))

    pub both_mark : tag_as false t ≡ 3 → true ≡ same (key τ x) (key τ y)
    both_mark z =
        sym (same_true (key_from_lem τ keys ρ X ∙ ap (λ k. key_from τ keys ρ k p) z ∙ sym (key_y ∙ ap (λ k. key_from τ keys ρ k q) z)))

    pub both_strings : tag_as false t ≡ 8 → (i : ℕ) × (j : ℕ) × (x ≡ string i) × (y ≡ string j)
    both_strings z =
        let a = is_string_lem X (kind_string t z) in
        let b = is_string_lem Y (kind_string u (sym kinds ∙ z)) in
        (a.0, b.0, a.1, b.1)

    module _ (g : Ghost) (X' : Alives g t p) (Y' : Alives g u q) (names : Distinct keys) (one : (h i : ℕ) → g.own h ≡ live → g.own i ≡ live → ρ h ≡ ρ i → h ≡ i) where
      pub words_differ : (tag_as false t ≡ 0 → ⊥) → (tag_as false t ≡ 3 → ⊥) → (tag_as false t ≡ 8 → ⊥) → (p ≡ q → ⊥) → false ≡ same (key τ x) (key τ y)
      words_differ a b c n =
          let K = keyed τ {g = g} X X' in
          let L = keyed τ {g = g} Y Y' in
          let kind : tag_as false t ≡ kind_at K.head = key_kind τ keys ρ X ∙ ap (λ (k : List ℕ). kind_at (get_or k 0 0)) K.whole in
          let not : (h : ℕ) → (tag_as false t ≡ kind_at h → ⊥) → K.head ≡ h → ⊥ = λ h f e. f (kind ∙ ap (kind_at) e) in
          sym (same_false (key τ x) (key τ y) (λ e.
          let whole = sym K.whole ∙ e ∙ L.whole in
          let heads = first_number whole in
          let rests = later_numbers whole in
          let mine : Recalls keys ρ g K.head K.rest q = rw (heads, rests) L.recalls in
          n (recalled keys ρ g names one K.head K.rest p q (not 2 a) (not 3 b) (not 6 c) K.recalls mine)))
