-- What the two words of a value say of it: by cases on its tag. And how that stays when names, objects and numbers are added.
-- Assumes nothing.
use mathlib.Core.Path.{◌≡◌, refl, sym, ap, ◌∙◌}
use mathlib.Core.Bool.{Bool, true, false}
use mathlib.Core.List.{List, [], ◌∷◌, ◌++◌, map}
use mathlib.Core.Option.{some}
use Prim.Native.Nat.{ℕ, zero, suc, ◌≤◌, ◌<◌}
use native.Mathlib.Omega.{arith}
use lib.ListN.{length, get_or, get_elem?, length-map}
use Rattle.semantics.specs.Sizes.{operator_count}
use Rattle.semantics.specs.Values.{Value, integer, boolean, null, mark, operator, name, string, array, Object, elements, text}
use Rattle.semantics.specs.Machine.{elements_of, bytes_of}
use Rattle.semantics.specs.Operators.{Entry, table}
use Rattle.semantics.specs.NameLaws.{operator_count_lem}
use Rattle.store.specs.Rep.{titles, is_text, bit, Stands, a_null, an_integer, a_boolean, a_mark, an_operator, a_literal, an_executable, a_string, an_array, a_procedure, Names, by_string, by_array}

-- ---- the operators' names

pub titles_count : length titles ≡ operator_count
unfolding titles
titles_count = length-map table (λ (e : Entry). e.title) ∙ operator_count_lem

-- ---- what a tag says

-- An object of a kind: a string or an array.
abbrev pub Object-of : List Bool → (ℕ → ℕ) → Bool → (ℕ → Value) → Value → ℕ → Type 0
Object-of texts ρ kind make v pay = (i : ℕ) × (v ≡ make i) × (ρ pay ≡ i) × (get_elem? texts i ≡ some kind)

-- What the tag says of a value with payload `pay`.
abbrev pub Says : List (List ℕ) → List Bool → (ℕ → ℕ) → Value → ℕ → ℕ → Type 0
Says keys texts ρ v pay zero = v ≡ null
Says keys texts ρ v pay (suc zero) = v ≡ integer pay
Says keys texts ρ v pay (suc (suc zero)) = (b : Bool) × (v ≡ boolean b) × (pay ≡ bit b)
Says keys texts ρ v pay (suc (suc (suc zero))) = v ≡ mark
Says keys texts ρ v pay (suc (suc (suc (suc zero)))) = (o : List ℕ) × (v ≡ operator o) × (get_elem? titles pay ≡ some o)
Says keys texts ρ v pay (suc (suc (suc (suc (suc zero))))) = (n : List ℕ) × (v ≡ name false n) × (get_elem? keys pay ≡ some n)
Says keys texts ρ v pay (suc (suc (suc (suc (suc (suc zero)))))) = (n : List ℕ) × (v ≡ name true n) × (get_elem? keys pay ≡ some n)
Says keys texts ρ v pay (suc (suc (suc (suc (suc (suc (suc zero))))))) = ⊥
Says keys texts ρ v pay (suc (suc (suc (suc (suc (suc (suc (suc zero)))))))) = Object-of texts ρ true string v pay
Says keys texts ρ v pay (suc (suc (suc (suc (suc (suc (suc (suc (suc zero))))))))) = Object-of texts ρ false (array false) v pay
Says keys texts ρ v pay (suc (suc (suc (suc (suc (suc (suc (suc (suc (suc zero)))))))))) = Object-of texts ρ false (array true) v pay
Says keys texts ρ v pay (suc (suc (suc (suc (suc (suc (suc (suc (suc (suc (suc t))))))))))) = ⊥

bit_one : (a b : Bool) → bit a ≡ bit b → a ≡ b
bit_one true true e = refl
bit_one true false e = absurd (omega arith)
bit_one false true e = absurd (omega arith)
bit_one false false e = refl

module _ {keys : List (List ℕ)} {texts : List Bool} {ρ : ℕ → ℕ} where
  pub says : {v : Value} {tag pay : ℕ} → Stands keys texts ρ v tag pay → Says keys texts ρ v pay tag
  says a_null = refl
  says an_integer = refl
  says (a_boolean {b = b}) = (b, refl, refl)
  says a_mark = refl
  says (an_operator {o = o} e) = (o, refl, e)
  says (a_literal {n = n} e) = (n, refl, e)
  says (an_executable {n = n} e) = (n, refl, e)
  says (a_string {i = i} r e) = (i, refl, r, e)
  says (an_array {i = i} r e) = (i, refl, r, e)
  says (a_procedure {i = i} r e) = (i, refl, r, e)

  module _ {v : Value} {tag pay : ℕ} (s : Stands keys texts ρ v tag pay) where
    pub is_null : tag ≡ 0 → v ≡ null
    is_null e = rw e at (says s)

    pub is_integer : tag ≡ 1 → v ≡ integer pay
    is_integer e = rw e at (says s)

    pub is_boolean : tag ≡ 2 → (b : Bool) × (v ≡ boolean b) × (pay ≡ bit b)
    is_boolean e = rw e at (says s)

    pub is_mark_lem : tag ≡ 3 → v ≡ mark
    is_mark_lem e = rw e at (says s)

    pub is_operator : tag ≡ 4 → (o : List ℕ) × (v ≡ operator o) × (get_elem? titles pay ≡ some o)
    is_operator e = rw e at (says s)

    pub is_literal : tag ≡ 5 → (n : List ℕ) × (v ≡ name false n) × (get_elem? keys pay ≡ some n)
    is_literal e = rw e at (says s)

    pub is_executable : tag ≡ 6 → (n : List ℕ) × (v ≡ name true n) × (get_elem? keys pay ≡ some n)
    is_executable e = rw e at (says s)

    pub is_string_lem : tag ≡ 8 → Object-of texts ρ true string v pay
    is_string_lem e = rw e at (says s)

    pub is_array : tag ≡ 9 → Object-of texts ρ false (array false) v pay
    is_array e = rw e at (says s)

    pub is_procedure_lem : tag ≡ 10 → Object-of texts ρ false (array true) v pay
    is_procedure_lem e = rw e at (says s)

    pub not_seven : tag ≡ 7 → ⊥
    not_seven e = rw e at (says s)

  -- The two words stand for one value.
  pub stands_one : {v w : Value} {tag pay : ℕ} → Stands keys texts ρ v tag pay → Stands keys texts ρ w tag pay → v ≡ w
  stands_one a_null s = sym (is_null s refl)
  stands_one an_integer s = sym (is_integer s refl)
  stands_one (a_boolean {b = b}) s = let x = is_boolean s refl in ap boolean (bit_one b x.0 x.2) ∙ sym x.1
  stands_one a_mark s = sym (is_mark_lem s refl)
  stands_one (an_operator e) s = let x = is_operator s refl in cc (x.1, x.2)
  stands_one (a_literal e) s = let x = is_literal s refl in cc (x.1, x.2)
  stands_one (an_executable e) s = let x = is_executable s refl in cc (x.1, x.2)
  stands_one (a_string r e) s = let x = is_string_lem s refl in cc (x.1, x.2)
  stands_one (an_array r e) s = let x = is_array s refl in cc (x.1, x.2)
  stands_one (a_procedure r e) s = let x = is_procedure_lem s refl in cc (x.1, x.2)

  pub tag_bound : {v : Value} {tag pay : ℕ} → Stands keys texts ρ v tag pay → tag ≤ 10
  tag_bound a_null = omega arith
  tag_bound an_integer = omega arith
  tag_bound a_boolean = omega arith
  tag_bound a_mark = omega arith
  tag_bound (an_operator e) = omega arith
  tag_bound (a_literal e) = omega arith
  tag_bound (an_executable e) = omega arith
  tag_bound (a_string r e) = omega arith
  tag_bound (an_array r e) = omega arith
  tag_bound (a_procedure r e) = omega arith

  -- ---- a tag from 8 on names an object

  pub names_stands : {v : Value} {tag pay : ℕ} → Stands keys texts ρ v tag pay → 8 ≤ tag → Names v (ρ pay)
  names_stands a_null l = absurd (omega arith)
  names_stands an_integer l = absurd (omega arith)
  names_stands a_boolean l = absurd (omega arith)
  names_stands a_mark l = absurd (omega arith)
  names_stands (an_operator e) l = absurd (omega arith)
  names_stands (a_literal e) l = absurd (omega arith)
  names_stands (an_executable e) l = absurd (omega arith)
  names_stands (a_string r e) l = rw r by_string
  names_stands (an_array r e) l = rw r by_array
  names_stands (a_procedure r e) l = rw r by_array

  pub stands_names : {v : Value} {tag pay i : ℕ} → Stands keys texts ρ v tag pay → Names v i → (8 ≤ tag) × (ρ pay ≡ i)
  stands_names (a_string r e) by_string = (omega arith, r)
  stands_names (an_array r e) by_array = (omega arith, r)
  stands_names (a_procedure r e) by_array = (omega arith, r)
  stands_names {pay = pay} {i = i} a_null x5 = elim x5 [ ]
  stands_names {i = i} (an_integer {w = w}) x6 = elim x6 [ ]
  stands_names {i = i} (a_boolean {b = b}) x7 = elim x7 [ ]
  stands_names {pay = pay} {i = i} a_mark x8 = elim x8 [ ]
  stands_names {pay = pay} {i = i} (an_operator {o = o} _) x13 = elim x13 [ ]
  stands_names {pay = pay} {i = i} (a_literal {n = n} _) x14 = elim x14 [ ]
  stands_names {pay = pay} {i = i} (an_executable {n = n} _) x15 = elim x15 [ ]

  pub stands_plain : {v : Value} {tag pay i : ℕ} → Stands keys texts ρ v tag pay → tag < 8 → Names v i → ⊥
  stands_plain s l n = omega (arith, (stands_names s n).0)

-- ---- names and kinds are added, numbers change elsewhere

pub getElem?-append : {A : Type 0} (l more : List A) (i : ℕ) (a : A) → get_elem? l i ≡ some a → get_elem? (l ++ more) i ≡ some a
getElem?-append [] more i a e = let z : ◌≡◌ {A = ℕ} 0 1 = cc in absurd (omega arith)
getElem?-append (x ∷ l) more zero a e = e
getElem?-append (x ∷ l) more (suc i) a e = getElem?-append l more i a e

-- A value stands as before where the names and kinds that there were stay, and ρ stays at the object that is named.
pub stands_map : {keys keys' : List (List ℕ)} {texts texts' : List Bool} {ρ ρ' : ℕ → ℕ} {v : Value} {tag pay : ℕ}
    → ((q : ℕ) (n : List ℕ) → get_elem? keys q ≡ some n → get_elem? keys' q ≡ some n)
    → ((i : ℕ) (b : Bool) → get_elem? texts i ≡ some b → get_elem? texts' i ≡ some b)
    → (8 ≤ tag → ρ' pay ≡ ρ pay)
    → Stands keys texts ρ v tag pay
    → Stands keys' texts' ρ' v tag pay
stands_map k t h a_null = a_null
stands_map k t h an_integer = an_integer
stands_map k t h a_boolean = a_boolean
stands_map k t h a_mark = a_mark
stands_map k t h (an_operator e) = an_operator e
stands_map k t h (a_literal {n = n} {q = q} e) = a_literal (k q n e)
stands_map k t h (an_executable {n = n} {q = q} e) = an_executable (k q n e)
stands_map k t h (a_string {i = i} r e) = a_string (h (omega arith) ∙ r) (t i true e)
stands_map k t h (an_array {i = i} r e) = an_array (h (omega arith) ∙ r) (t i false e)
stands_map k t h (a_procedure {i = i} r e) = a_procedure (h (omega arith) ∙ r) (t i false e)

module _ {keys : List (List ℕ)} {texts : List Bool} {ρ : ℕ → ℕ} {v : Value} {tag pay : ℕ} where
  pub stands_keys : (more : List (List ℕ)) → Stands keys texts ρ v tag pay → Stands (keys ++ more) texts ρ v tag pay
  stands_keys more s = stands_map (getElem?-append keys more) (λ i b e. e) (λ l. refl) s

  pub stands_texts : (more : List Bool) → Stands keys texts ρ v tag pay → Stands keys (texts ++ more) ρ v tag pay
  stands_texts more s = stands_map (λ q n e. e) (getElem?-append texts more) (λ l. refl) s

  pub stands_moves : {ρ' : ℕ → ℕ} → (8 ≤ tag → ρ' pay ≡ ρ pay) → Stands keys texts ρ v tag pay → Stands keys texts ρ' v tag pay
  stands_moves h s = stands_map (λ q n e. e) (λ i b e. e) h s

-- ---- names

pub names_one : {v : Value} {i j : ℕ} → Names v i → Names v j → i ≡ j
names_one by_string by_string = refl
names_one by_array by_array = refl

pub names_cast : (v : Value) {i j : ℕ} → i ≡ j → Names v i → Names v j
names_cast v p n = rw p at n

pub null_names : {v : Value} {i : ℕ} → Names v i → v ≡ null → ⊥
null_names by_string e = let z : ◌≡◌ {A = ℕ} 0 1 = cc in absurd (omega arith)
null_names by_array e = let z : ◌≡◌ {A = ℕ} 0 1 = cc in absurd (omega arith)

-- ---- objects by kind

pub text_elements : (o : Object) → is_text o ≡ true → elements_of o ≡ []
unfolding elements_of
text_elements (elements vs) e = let z : ◌≡◌ {A = ℕ} 0 1 = cc in absurd (omega arith)
text_elements (text bs) e = refl

pub text_is : (o : Object) → is_text o ≡ true → o ≡ text (bytes_of o)
unfolding bytes_of
text_is (elements vs) e = let z : ◌≡◌ {A = ℕ} 0 1 = cc in absurd (omega arith)
text_is (text bs) e = refl

pub array_is : (o : Object) → is_text o ≡ false → o ≡ elements (elements_of o)
unfolding elements_of
array_is (elements vs) e = refl
array_is (text bs) e = let z : ◌≡◌ {A = ℕ} 0 1 = cc in absurd (omega arith)

-- Which object has the kind that is on record.
pub kind_at : (store : List Object) (i : ℕ) (b : Bool) → get_elem? (map is_text store) i ≡ some b → (i < length store) × (is_text (get_or store i (elements [])) ≡ b)
kind_at [] i b e = let z : ◌≡◌ {A = ℕ} 0 1 = cc in absurd (omega arith)
kind_at (o ∷ store) zero b e = (omega arith, cc)
kind_at (o ∷ store) (suc i) b e = let r = kind_at store i b e in (omega (arith, r.0), r.1)

pub at_kind : (store : List Object) (i : ℕ) (b : Bool) → i < length store → is_text (get_or store i (elements [])) ≡ b → get_elem? (map is_text store) i ≡ some b
at_kind [] i b l e = absurd (omega arith)
at_kind (o ∷ store) zero b l e = ap some e
at_kind (o ∷ store) (suc i) b l e = at_kind store i b (omega arith) e
