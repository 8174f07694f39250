-- What the tag of an item says of it, in the words that the primitives on elements and bytes ask for.
-- Assumes nothing.
use mathlib.Core.Path.{◌≡◌, refl, sym}
use mathlib.Core.Bool.{Bool, true, false}
use mathlib.Core.List.{List}
use Prim.Native.Nat.{ℕ, suc, ◌+◌, ◌≤◌, ◌<◌}
use native.Mathlib.Omega.{arith}
use lib.ListN.{get_or}
use Rattle.semantics.specs.Values.{Value, integer, boolean, null, mark, operator, name, string, array, ok, fault, object_id, array_id, string_id}
use Rattle.semantics.specs.declared.Error.TheVariants.{TypeCheck}
use Rattle.semantics.specs.Machine as Floo
use Rattle.store.specs.Rep.{Stands, a_null, an_integer, a_boolean, a_mark, an_operator, a_literal, an_executable, a_string, an_array, a_procedure}
use Rattle.store.proofs.Standing.{is_string_lem, is_array, is_procedure_lem}
use Rattle.machine.specs.Words.{item_tag}
use Rattle.machine.specs.Places.{Nameless}
use Rattle.machine.specs.Rep.{Rep, Somewhere}
use Rattle.machine.specs.declared.Machine.{Machine}
use Rattle.machine.proofs.Copying.{word_of}
use Rattle.elements.specs.Elements.{tag_of, named, HasArray, HasString, HasObject, HasPlain, ItemTag, SomewhereThat}

pub stands_nameless : {keys : List (List ℕ)} {texts : List Bool} {ρ : ℕ → ℕ} {v : Value} {t p : ℕ} → Stands keys texts ρ v t p → t < 8 → Nameless v
stands_nameless a_null l = record { none = λ t. t }
stands_nameless an_integer l = record { none = λ t. t }
stands_nameless a_boolean l = record { none = λ t. t }
stands_nameless a_mark l = record { none = λ t. t }
stands_nameless (an_operator e) l = record { none = λ t. t }
stands_nameless (a_literal e) l = record { none = λ t. t }
stands_nameless (an_executable e) l = record { none = λ t. t }
stands_nameless (a_string r e) l = absurd (omega arith)
stands_nameless (an_array r e) l = absurd (omega arith)
stands_nameless (a_procedure r e) l = absurd (omega arith)

stands_tag : {keys : List (List ℕ)} {texts : List Bool} {ρ : ℕ → ℕ} {v : Value} {t p : ℕ} → Stands keys texts ρ v t p → t ≡ tag_of v
unfolding tag_of
stands_tag a_null = refl
stands_tag an_integer = refl
stands_tag a_boolean = refl
stands_tag a_mark = refl
stands_tag (an_operator e) = refl
stands_tag (a_literal e) = refl
stands_tag (an_executable e) = refl
stands_tag (a_string r e) = refl
stands_tag (an_array r e) = refl
stands_tag (a_procedure r e) = refl

module _ {m : Machine} {st e d c l : List ℕ} {μ : Floo.Machine} (R : Rep m st e d c l μ) (i k : ℕ) (h : m.depth ≡ k + suc i) where
  pub item_tag_lem : item_tag st k ≡ tag_of (get_or μ.stack i null)
  item_tag_lem = stands_tag (word_of R i k h).stands

  pub plain_item : item_tag st k < 8 → HasPlain i μ
  plain_item low = stands_nameless (word_of R i k h).stands low

  pub string_tagged : item_tag st k ≡ 8 → HasString i μ
  string_tagged q = let y = is_string_lem (word_of R i k h).stands q in record { id = y.0; item = y.1 }

  pub array_is_literal : item_tag st k ≡ 9 → (id : ℕ) × (get_or μ.stack i null ≡ array false id)
  array_is_literal q = let y = is_array (word_of R i k h).stands q in (y.0, y.1)

  pub array_is_executable : item_tag st k ≡ 10 → (id : ℕ) × (get_or μ.stack i null ≡ array true id)
  array_is_executable q = let y = is_procedure_lem (word_of R i k h).stands q in (y.0, y.1)

  pub array_tagged : item_tag st k ≡ 9 → HasArray i μ
  array_tagged q = let y = array_is_literal q in record { executable = false; id = y.0; item = y.1 }

  pub procedure_tagged : item_tag st k ≡ 10 → HasArray i μ
  procedure_tagged q = let y = array_is_executable q in record { executable = true; id = y.0; item = y.1 }

-- ---- from a value's tag to the value

pub tag_string : (v : Value) → tag_of v ≡ 8 → (id : ℕ) × (v ≡ string id)
unfolding tag_of
tag_string null q = absurd (omega arith)
tag_string (integer w) q = absurd (omega arith)
tag_string (boolean b) q = absurd (omega arith)
tag_string mark q = absurd (omega arith)
tag_string (operator o) q = absurd (omega arith)
tag_string (name false n) q = absurd (omega arith)
tag_string (name true n) q = absurd (omega arith)
tag_string (string i) q = (i, refl)
tag_string (array false i) q = absurd (omega arith)
tag_string (array true i) q = absurd (omega arith)

pub tag_array : (v : Value) → 9 ≤ tag_of v → (x : Bool) × (id : ℕ) × (v ≡ array x id)
unfolding tag_of
tag_array null q = absurd (omega arith)
tag_array (integer w) q = absurd (omega arith)
tag_array (boolean b) q = absurd (omega arith)
tag_array mark q = absurd (omega arith)
tag_array (operator o) q = absurd (omega arith)
tag_array (name false n) q = absurd (omega arith)
tag_array (name true n) q = absurd (omega arith)
tag_array (string i) q = absurd (omega arith)
tag_array (array x i) q = (x, i, refl)

pub tag_object : (v : Value) → 8 ≤ tag_of v → object_id v ≡ ok (named v)
unfolding tag_of object_id named
tag_object null q = absurd (omega arith)
tag_object (integer w) q = absurd (omega arith)
tag_object (boolean b) q = absurd (omega arith)
tag_object mark q = absurd (omega arith)
tag_object (operator o) q = absurd (omega arith)
tag_object (name false n) q = absurd (omega arith)
tag_object (name true n) q = absurd (omega arith)
tag_object (string i) q = refl
tag_object (array x i) q = refl

pub tag_no_object : (v : Value) → tag_of v < 8 → object_id v ≡ fault TypeCheck
unfolding tag_of object_id
tag_no_object null q = refl
tag_no_object (integer w) q = refl
tag_no_object (boolean b) q = refl
tag_no_object mark q = refl
tag_no_object (operator o) q = refl
tag_no_object (name x n) q = refl
tag_no_object (string i) q = absurd (omega arith)
tag_no_object (array false i) q = absurd (omega arith)
tag_no_object (array true i) q = absurd (omega arith)

pub tag_no_string : (v : Value) → (tag_of v ≡ 8 → ⊥) → string_id v ≡ fault TypeCheck
unfolding tag_of string_id
tag_no_string null n = refl
tag_no_string (integer w) n = refl
tag_no_string (boolean b) n = refl
tag_no_string mark n = refl
tag_no_string (operator o) n = refl
tag_no_string (name x k) n = refl
tag_no_string (string i) n = absurd (n refl)
tag_no_string (array x i) n = refl

pub tag_no_array : (v : Value) → tag_of v < 9 → array_id v ≡ fault TypeCheck
unfolding tag_of array_id
tag_no_array null q = refl
tag_no_array (integer w) q = refl
tag_no_array (boolean b) q = refl
tag_no_array mark q = refl
tag_no_array (operator o) q = refl
tag_no_array (name x n) q = refl
tag_no_array (string i) q = refl
tag_no_array (array false i) q = absurd (omega arith)
tag_no_array (array true i) q = absurd (omega arith)

-- ---- an item that is an array or a string

module _ {m : Machine} {s e d c l : List ℕ} {μ : Floo.Machine} (R : Rep m s e d c l μ) {i : ℕ} where
  pub array_of : ((t : ℕ) × (9 ≤ t) × ItemTag i m s t) → HasArray i μ
  array_of A =
      let x = tag_array (get_or μ.stack i null) (omega (arith, A.1, A.2.says e d c l μ R)) in
      record { executable = x.0; id = x.1; item = x.2 }

  pub object_of : {t : ℕ} → ItemTag i m s t → 8 ≤ t → HasObject i μ
  object_of T high = record { id = _; item = tag_object (get_or μ.stack i null) (omega (arith, high, T.says e d c l μ R)) }

  pub string_of : ItemTag i m s 8 → HasString i μ
  string_of T =
      let x = tag_string (get_or μ.stack i null) (sym (T.says e d c l μ R)) in
      record { id = x.0; item = x.1 }

module _ {i : ℕ} {m : Machine} {s c : List ℕ} where
  pub array_there : ((t : ℕ) × (9 ≤ t) × ItemTag i m s t) → Somewhere m s c → SomewhereThat (HasArray i) m s c
  array_there A (e, d, l, μ, R) = (e, d, l, μ, R, array_of R A)

  pub object_there : {t : ℕ} → ItemTag i m s t → 8 ≤ t → Somewhere m s c → SomewhereThat (HasObject i) m s c
  object_there T high (e, d, l, μ, R) = (e, d, l, μ, R, object_of R T high)

  pub string_there : ItemTag i m s 8 → Somewhere m s c → SomewhereThat (HasString i) m s c
  string_there T (e, d, l, μ, R) = (e, d, l, μ, R, string_of R T)
