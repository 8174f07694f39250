-- What the words say of items that are integers, arrays and strings: the same of each machine that they stand for.
-- Assumes nothing.
use Rattle.std.specs.Prelude.{Err}
use mathlib.Core.Path.{◌≡◌, refl, sym, ap, ◌∙◌, subst}
use mathlib.Core.Bool.{true, false}
use mathlib.Core.List.{List}
use Prim.Native.Nat.{ℕ, suc, ◌+◌, ◌-◌, ◌≤◌, ◌<◌}
use native.Mathlib.Omega.{arith}
use lib.ListN.{length, get_or}
use Rattle.semantics.specs.Values.{Value, integer, boolean, null, mark, operator, name, string, array, elements, text, ok, object_id}
use Rattle.semantics.specs.ResultLaws.{ok_injective}
use Rattle.semantics.specs.Machine as Floo
use Rattle.semantics.specs.Machine.{object, elements_of, bytes_of}
use Rattle.semantics.specs.ObjectOperators.{is_mark, length_of}
use Rattle.semantics.specs.declared.Error.TheVariants.{TypeCheck}
use Rattle.store.specs.Rep.{object_at}
use Rattle.store.proofs.Standing.{is_integer}
use Rattle.machine.specs.Words.{item_tag, item_payload}
use Rattle.machine.specs.Rep.{Rep, Somewhere}
use Rattle.machine.specs.declared.Machine.{Machine}
use Rattle.machine.proofs.Copying.{word_of}
use Rattle.machine.proofs.Operands.{stands_no_integer}
use Rattle.elements.specs.Elements.{tag_of, HasArray, HasString, HasElement, SomewhereThat, ItemTag, ArraySize}
use Rattle.elements.proofs.Arrays.{array_item}
use Rattle.elements.proofs.Strings.{string_item}
use Rattle.elements.proofs.Tags.{array_of, string_of}
use Rattle.strings.specs.Strings.{CurrentSize}
use Rattle.array_operators.specs.Items.{ItemInt, IntegerItem, ArrayItem, StringItem, ItemLength}

-- ---- values by their tags

pub tag_mark : (v : Value) → tag_of v ≡ 3 → v ≡ mark
unfolding tag_of
tag_mark null q = absurd (omega arith)
tag_mark (integer w) q = absurd (omega arith)
tag_mark (boolean b) q = absurd (omega arith)
tag_mark mark q = refl
tag_mark (operator o) q = absurd (omega arith)
tag_mark (name false n) q = absurd (omega arith)
tag_mark (name true n) q = absurd (omega arith)
tag_mark (string i) q = absurd (omega arith)
tag_mark (array false i) q = absurd (omega arith)
tag_mark (array true i) q = absurd (omega arith)

pub tag_no_mark : (v : Value) → (tag_of v ≡ 3 → ⊥) → is_mark v ≡ false
unfolding tag_of is_mark
tag_no_mark null q = refl
tag_no_mark (integer w) q = refl
tag_no_mark (boolean b) q = refl
tag_no_mark mark q = absurd (q refl)
tag_no_mark (operator o) q = refl
tag_no_mark (name x n) q = refl
tag_no_mark (string i) q = refl
tag_no_mark (array x i) q = refl

-- ---- an integer

module _ {m : Machine} {s : List ℕ} {i : ℕ} (k : ℕ) (h : m.depth ≡ k + suc i) where
  pub no_integer : (item_tag s k ≡ 1 → ⊥) → ItemInt i m s (Err TypeCheck)
  no_integer n = record { says = λ e d c l μ R. stands_no_integer (word_of R i k h).stands n }

  pub an_integer_is : {w : ℕ} → item_tag s k ≡ 1 → w ≡ item_payload s k → IntegerItem i w m s
  an_integer_is q e = record { says = λ x d c l μ R. is_integer (word_of R i k h).stands q ∙ ap integer (sym e) }

-- ---- an array, a string

-- An object that is no string.
pub array_tag_lem : {i t : ℕ} {m : Machine} {s : List ℕ} → ItemTag i m s t → 8 ≤ t → (t ≡ 8 → ⊥) → ArrayItem i m s
array_tag_lem {t = t} T high n = (t, omega (arith, high, n), T)

module _ {m : Machine} {s e d c l : List ℕ} {μ : Floo.Machine} (R : Rep m s e d c l μ) {i : ℕ} where
  module _ (deep : i < m.depth) where
    place : m.depth ≡ m.depth - suc i + suc i
    place = omega (arith, deep)

    pub whole_array : (a : HasArray i μ) → object μ a.id ≡ elements (elements_of (object μ a.id))
    unfolding object
    whole_array a =
        let A = array_item R i (m.depth - suc i) place a.item in
        subst (λ id. object_at μ.store id ≡ elements (elements_of (object_at μ.store id))) A.stands A.whole

    pub made_array : (a : HasArray i μ) → a.id < length μ.store
    made_array a =
        let A = array_item R i (m.depth - suc i) place a.item in
        subst (λ id. id < length μ.store) A.stands (R.stored.objects.id _ A.lives)

    pub whole_string : (a : HasString i μ) → object μ a.id ≡ text (bytes_of (object μ a.id))
    unfolding object
    whole_string a =
        let A = string_item R i (m.depth - suc i) place a.item in
        subst (λ id. object_at μ.store id ≡ text (bytes_of (object_at μ.store id))) A.stands A.whole

module _ {i : ℕ} {m : Machine} {s c : List ℕ} where
  pub element_there : {n q : ℕ} → ArrayItem i m s → Somewhere m s c → ArraySize i m s c n → q < n → SomewhereThat (HasElement i q) m s c
  element_there {q = q} A (e, d, l, μ, R) Z h =
      let a = array_of R A in
      (e, d, l, μ, R, record { array = a; inside = omega (arith, h, Z.says e d l μ R a.executable a.id a.item) })

-- ---- the length of an item

same_id : (v : Value) {j k : ℕ} → object_id v ≡ ok j → object_id v ≡ ok k → j ≡ k
same_id v p q = ok_injective (sym p ∙ q)

module _ {i : ℕ} {m : Machine} {s c : List ℕ} {r : ℕ} (deep : i < m.depth) where
  pub string_length : StringItem i m s → CurrentSize i m s c r → ItemLength i m s c r
  unfolding length_of object_id
  string_length T Z =
      record {
        says = λ e d l μ R id x.
            let a = string_of R T in
            let same : a.id ≡ id = same_id (get_or μ.stack i null) (ap object_id a.item) x in
            subst (λ j. r ≡ length_of (object μ j)) same (Z.says e d l μ R a.id a.item ∙ sym (ap length_of (whole_string R deep a)));
      }

  pub array_length : ArrayItem i m s → ArraySize i m s c r → ItemLength i m s c r
  unfolding length_of object_id
  array_length A Z =
      record {
        says = λ e d l μ R id x.
            let a = array_of R A in
            let same : a.id ≡ id = same_id (get_or μ.stack i null) (ap object_id a.item) x in
            subst (λ j. r ≡ length_of (object μ j)) same (Z.says e d l μ R a.executable a.id a.item ∙ sym (ap length_of (whole_array R deep a)));
      }
