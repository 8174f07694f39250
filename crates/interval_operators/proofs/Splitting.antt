-- Three operands by their tags, and the definition's operators on a stack whose three topmost items are known.
-- Assumes nothing.
use mathlib.Core.Path.{◌≡◌, refl, sym, ap, ◌∙◌, subst}
use mathlib.Core.Bool.{Bool, true, false}
use mathlib.Core.List.{List, [], ◌∷◌}
use mathlib.Core.Logic.{⊎_elim}
use Prim.Native.Nat.{ℕ, suc, ◌+◌, ◌-◌, ◌≤◌, ◌<◌}
use native.Mathlib.Omega.{arith}
use lib.ListN.{length, get_or}
use lib.Dec.{leb}
use Rattle.semantics.specs.Text.{bytes, textual}
use Rattle.semantics.specs.Values.{Value, integer, boolean, null, mark, operator, name, string, array, Object, elements, text, Result, ok, fault, ◌>>=◌, check, int, object_id, count}
use Rattle.semantics.specs.Machine as Floo
use Rattle.semantics.specs.Machine.{with_stack, object, elements_of, bytes_of, change, writable, pop3}
use Rattle.semantics.specs.ObjectOperators.{size, part, redirect, push_new, put_all, getinterval, putinterval}
use Rattle.semantics.specs.Operators.{perform, find, table, ◌is◌}
use Rattle.semantics.specs.declared.Error.TheVariants.{StackUnderflow, TypeCheck, RangeCheck}
use Rattle.heap.proofs.Since.{lt_or_le}
use Rattle.store.specs.Rep.{object_at}
use Rattle.machine.specs.Words.{item_payload}
use Rattle.machine.specs.Rep.{Rep}
use Rattle.machine.specs.declared.Machine.{Machine}
use Rattle.machine.proofs.Outcomes.{stack_depth}
use Rattle.machine.proofs.Pops.{pop3_under}
use Rattle.elements.specs.Elements.{tag_of, ItemTag}
use Rattle.elements.proofs.Arrays.{array_item}
use Rattle.elements.proofs.Strings.{string_item}

-- ---- tags

pub tag_integer : (v : Value) → tag_of v ≡ 1 → (w : ℕ) × (v ≡ integer w)
unfolding tag_of
tag_integer null q = absurd (omega arith)
tag_integer (integer w) q = (w, refl)
tag_integer (boolean b) q = absurd (omega arith)
tag_integer mark q = absurd (omega arith)
tag_integer (operator o) q = absurd (omega arith)
tag_integer (name false n) q = absurd (omega arith)
tag_integer (name true n) q = absurd (omega arith)
tag_integer (string i) q = absurd (omega arith)
tag_integer (array false i) q = absurd (omega arith)
tag_integer (array true i) q = absurd (omega arith)

pub tag_no_integer : (v : Value) → (tag_of v ≡ 1 → ⊥) → int v ≡ fault TypeCheck
unfolding tag_of int
tag_no_integer null n = refl
tag_no_integer (integer w) n = absurd (n refl)
tag_no_integer (boolean b) n = refl
tag_no_integer mark n = refl
tag_no_integer (operator o) n = refl
tag_no_integer (name x k) n = refl
tag_no_integer (string i) n = refl
tag_no_integer (array x i) n = refl

-- A tag from 8 on that is not 8.
pub nine : {t u : ℕ} → 8 ≤ t → (t ≡ 8 → ⊥) → t ≡ u → 9 ≤ u
nine {t} h n q = ⊎_elim (λ (k : t < 9). absurd (n (omega (arith, h, k)))) (λ (k : 9 ≤ t). omega (arith, k, q)) (lt_or_le t 9)

-- ---- the three topmost items

pub record Three (μ : Floo.Machine) : Type 0 where
  pub z : Value
  pub y : Value
  pub x : Value
  pub rest : List Value
  pub split : μ.stack ≡ z ∷ y ∷ x ∷ rest

pub three : {m : Machine} {s e d c l : List ℕ} {μ : Floo.Machine} → Rep m s e d c l μ → 3 ≤ m.depth → Three μ
three {μ = μ} R deep = by μ.stack refl (omega (arith, deep, stack_depth R))
  where
    by : (l : List Value) → μ.stack ≡ l → 3 ≤ length l → Three μ
    by [] q h = absurd (omega arith)
    by (z ∷ []) q h = absurd (omega arith)
    by (z ∷ y ∷ []) q h = absurd (omega arith)
    by (z ∷ y ∷ x ∷ rest) q h = record { z = z; y = y; x = x; rest = rest; split = q }

-- The machine with the stack that it has.
pub refit : (μ : Floo.Machine) {l : List Value} → μ.stack ≡ l → with_stack l μ ≡ μ
unfolding with_stack
refit μ q = ap (λ (t : List Value). with_stack t μ) (sym q)

-- The tags of the three items.
module _ {m : Machine} {s e d c l : List ℕ} {μ : Floo.Machine} (R : Rep m s e d c l μ) (T : Three μ) {t : ℕ} where
  pub tag_x : ItemTag 2 m s t → t ≡ tag_of T.x
  tag_x I = I.says e d c l μ R ∙ ap (λ (k : List Value). tag_of (get_or k 2 null)) T.split

  pub tag_y : ItemTag 1 m s t → t ≡ tag_of T.y
  tag_y I = I.says e d c l μ R ∙ ap (λ (k : List Value). tag_of (get_or k 1 null)) T.split

  pub tag_z : ItemTag 0 m s t → t ≡ tag_of T.z
  tag_z I = I.says e d c l μ R ∙ ap (λ (k : List Value). tag_of (get_or k 0 null)) T.split

pub known : {l : List Value} {z z' y y' x x' : Value} {rest : List Value}
    → l ≡ z ∷ y ∷ x ∷ rest
    → z ≡ z'
    → y ≡ y'
    → x ≡ x'
    → l ≡ z' ∷ y' ∷ x' ∷ rest
known {z' = z'} {y = y} {y' = y'} {x = x} {rest = rest} q a b c =
    q ∙ ap (λ v. v ∷ y ∷ x ∷ rest) a ∙ ap (λ v. z' ∷ v ∷ x ∷ rest) b ∙ ap (λ v. z' ∷ y' ∷ v ∷ rest) c

-- ---- objects by their values

module _ {m : Machine} {s e d c l : List ℕ} {μ : Floo.Machine} (R : Rep m s e d c l μ) (i : ℕ) (deep : i < m.depth) {id : ℕ} where
  pub text_of : get_or μ.stack i null ≡ string id → (object μ id ≡ text (bytes_of (object μ id))) × (id < length μ.store)
  unfolding object
  text_of q =
      let k = m.depth - suc i in
      let h : m.depth ≡ k + suc i = omega (arith, deep) in
      let A = string_item R i k h q in (
        subst (λ j. object_at μ.store j ≡ text (bytes_of (object_at μ.store j))) A.stands A.whole,
        subst (λ j. j < length μ.store) A.stands (R.stored.objects.id (item_payload s k) A.lives),
      )

  pub array_of : {x : Bool} → get_or μ.stack i null ≡ array x id → (object μ id ≡ elements (elements_of (object μ id))) × (id < length μ.store)
  unfolding object
  array_of q =
      let k = m.depth - suc i in
      let h : m.depth ≡ k + suc i = omega (arith, deep) in
      let A = array_item R i k h q in (
        subst (λ j. object_at μ.store j ≡ elements (elements_of (object_at μ.store j))) A.stands A.whole,
        subst (λ j. j < length μ.store) A.stands (R.stored.objects.id (item_payload s k) A.lives),
      )

pub text_size : {o : Object} → o ≡ text (bytes_of o) → size o ≡ length (bytes_of o)
unfolding size
text_size {o} q = ap size q

pub array_size : {o : Object} → o ≡ elements (elements_of o) → size o ≡ length (elements_of o)
unfolding size
array_size {o} q = ap size q

-- ---- the definition's operators, after their pops

abbrev pub putting : Value → Value → Value → Floo.Machine → Result Floo.Machine
putting x y z τ =
    object_id x >>= λ i.
    int y >>= λ p.
    object_id z >>= λ j.
    put_all (object τ i) (object τ j) >>= λ written.
    writable i τ >>= λ w.
    count p >>= λ start.
    check (leb (start + size (object τ j)) (size (object τ i))) RangeCheck >>= λ u.
    ok (change i (written start) τ)

abbrev pub getting : Value → Value → Value → Floo.Machine → Result Floo.Machine
getting x y z τ =
    object_id x >>= λ i.
    int y >>= λ p.
    int z >>= λ q.
    count p >>= λ start.
    count q >>= λ n.
    check (leb (start + n) (size (object τ i))) RangeCheck >>= λ u.
    ok (push_new (redirect x) (part start n (object τ i)) τ)

module _ (z y x : Value) (rest : List Value) (μ : Floo.Machine) where
  put_at : perform (bytes "putinterval") (with_stack (z ∷ y ∷ x ∷ rest) μ) ≡ putting x y z (with_stack rest μ)
  unfolding textual perform find table ◌is◌ putinterval pop3 with_stack ◌>>=◌
  put_at = refl

  get_at : perform (bytes "getinterval") (with_stack (z ∷ y ∷ x ∷ rest) μ) ≡ getting x y z (with_stack rest μ)
  unfolding textual perform find table ◌is◌ getinterval pop3 with_stack ◌>>=◌
  get_at = refl

module _ (μ : Floo.Machine) {z y x : Value} {rest : List Value} (split : μ.stack ≡ z ∷ y ∷ x ∷ rest) where
  pub put_is : perform (bytes "putinterval") μ ≡ putting x y z (with_stack rest μ)
  put_is = ap (perform (bytes "putinterval")) (sym (refit μ split)) ∙ put_at z y x rest μ

  pub get_is : perform (bytes "getinterval") μ ≡ getting x y z (with_stack rest μ)
  get_is = ap (perform (bytes "getinterval")) (sym (refit μ split)) ∙ get_at z y x rest μ

-- Too few items.
module _ (μ : Floo.Machine) (few : length μ.stack < 3) where
  pub put_under : perform (bytes "putinterval") μ ≡ fault StackUnderflow
  unfolding textual perform find table ◌is◌ putinterval ◌>>=◌
  put_under = ap (λ r. r >>= λ p. putting p.0 p.1 p.2 p.3) (pop3_under μ few)

  pub get_under : perform (bytes "getinterval") μ ≡ fault StackUnderflow
  unfolding textual perform find table ◌is◌ getinterval ◌>>=◌
  get_under = ap (λ r. r >>= λ p. getting p.0 p.1 p.2 p.3) (pop3_under μ few)
