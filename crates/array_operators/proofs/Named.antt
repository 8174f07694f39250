-- The definition's operator of each name, by its pops and what follows.
-- Assumes nothing.
use mathlib.Core.Path.{◌≡◌, refl, ap, ◌∙◌}
use mathlib.Core.Bool.{false}
use mathlib.Core.List.{List, [], ◌∷◌, ◌++◌, reverse}
use Prim.Native.Nat.{ℕ, ◌≤◌, ◌<◌}
use native.Mathlib.Omega.{arith}
use lib.ListN.{length, get_or, take, drop, replicate}
use lib.Dec.{leb}
use lib.Seq.{drop-cons}
use Rattle.semantics.specs.Text.{bytes, textual}
use Rattle.semantics.specs.Values.{Value, integer, null, string, array, elements, text, Result, ok, fault, ◌>>=◌, check, int, array_id, object_id, count}
use Rattle.semantics.specs.Machine.{Machine, with_stack, push, pop1, pop2, pop3, object, elements_of, change, protect, writable}
use Rattle.semantics.specs.Operators.{perform, find, table, ◌is◌}
use Rattle.semantics.specs.ObjectOperators as Floo
use Rattle.semantics.specs.ObjectOperators.{push_new, length_of, got, put_into, size, above_mark}
use Rattle.semantics.specs.declared.Error.TheVariants.{StackUnderflow}
use Rattle.machine.proofs.Operands.{pop1_some, pop2_some, pop1_under, pop2_under}
use Rattle.machine.proofs.Pops.{pop3_under, pop3_some}
use Rattle.array_operators.specs.Items.{on_length, popped}

-- ---- the first items

module _ (l : List Value) where
  pub front1 : 1 ≤ length l → l ≡ get_or l 0 null ∷ drop 1 l
  front1 h = drop-cons l 0 null (omega (arith, h))

  front2 : 2 ≤ length l → l ≡ get_or l 0 null ∷ get_or l 1 null ∷ drop 2 l
  front2 = by l
    where
      by : (l : List Value) → 2 ≤ length l → l ≡ get_or l 0 null ∷ get_or l 1 null ∷ drop 2 l
      by [] h = absurd (omega arith)
      by (x ∷ []) h = absurd (omega arith)
      by (x ∷ y ∷ s) h = refl

  front3 : 3 ≤ length l → l ≡ get_or l 0 null ∷ get_or l 1 null ∷ get_or l 2 null ∷ drop 3 l
  front3 = by l
    where
      by : (l : List Value) → 3 ≤ length l → l ≡ get_or l 0 null ∷ get_or l 1 null ∷ get_or l 2 null ∷ drop 3 l
      by [] h = absurd (omega arith)
      by (x ∷ []) h = absurd (omega arith)
      by (x ∷ y ∷ []) h = absurd (omega arith)
      by (x ∷ y ∷ z ∷ s) h = refl

-- ---- pops

module _ (μ : Machine) where
  pub popped1 : 1 ≤ length μ.stack → pop1 μ ≡ ok (get_or μ.stack 0 null, popped 1 μ)
  unfolding popped
  popped1 h = pop1_some μ (front1 μ.stack h)

  popped2 : 2 ≤ length μ.stack → pop2 μ ≡ ok (get_or μ.stack 1 null, get_or μ.stack 0 null, popped 2 μ)
  unfolding popped
  popped2 h = pop2_some μ (front2 μ.stack h)

  popped3 : 3 ≤ length μ.stack → pop3 μ ≡ ok (get_or μ.stack 2 null, get_or μ.stack 1 null, get_or μ.stack 0 null, popped 3 μ)
  unfolding popped
  popped3 h = pop3_some μ (front3 μ.stack h)

-- ---- array and string

pub array_is : (μ : Machine) → perform (bytes "array") μ ≡ on_length (λ n τ. ok (push_new (array false) (elements (replicate n null)) τ)) μ
unfolding textual perform find table ◌is◌ Floo.array' on_length
array_is μ = refl

pub string_is : (μ : Machine) → perform (bytes "string") μ ≡ on_length (λ n τ. ok (push_new string (text (replicate n 0)) τ)) μ
unfolding textual perform find table ◌is◌ Floo.string' on_length
string_is μ = refl

-- ---- length, get, put

abbrev pub measuring : Value → Machine → Result Machine
measuring x τ = object_id x >>= λ i. ok (push (integer (length_of (object τ i))) τ)

abbrev pub getting : Value → Value → Machine → Result Machine
getting x y τ = object_id x >>= λ i. int y >>= λ z. count z >>= λ n. got (object τ i) n >>= λ v. ok (push v τ)

abbrev pub putting : Value → Value → Value → Machine → Result Machine
putting x y v τ = object_id x >>= λ i. int y >>= λ z. put_into (object τ i) v >>= λ f. writable i τ >>= λ u. f z >>= λ o. ok (change i o τ)

module _ (μ : Machine) where
  length_is : perform (bytes "length") μ ≡ (pop1 μ >>= λ p. measuring p.0 p.1)
  unfolding textual perform find table ◌is◌ Floo.length'
  length_is = refl

  pub length_under : length μ.stack < 1 → perform (bytes "length") μ ≡ fault StackUnderflow
  unfolding ◌>>=◌
  length_under h = length_is ∙ ap (λ r. r >>= λ p. measuring p.0 p.1) (pop1_under μ h)

  pub length_on : 1 ≤ length μ.stack → perform (bytes "length") μ ≡ measuring (get_or μ.stack 0 null) (popped 1 μ)
  unfolding ◌>>=◌
  length_on h = length_is ∙ ap (λ r. r >>= λ p. measuring p.0 p.1) (popped1 μ h)

  get_is : perform (bytes "get") μ ≡ (pop2 μ >>= λ p. getting p.0 p.1 p.2)
  unfolding textual perform find table ◌is◌ Floo.get
  get_is = refl

  pub get_under : length μ.stack < 2 → perform (bytes "get") μ ≡ fault StackUnderflow
  unfolding ◌>>=◌
  get_under h = get_is ∙ ap (λ r. r >>= λ p. getting p.0 p.1 p.2) (pop2_under μ h)

  pub get_on : 2 ≤ length μ.stack → perform (bytes "get") μ ≡ getting (get_or μ.stack 1 null) (get_or μ.stack 0 null) (popped 2 μ)
  unfolding ◌>>=◌
  get_on h = get_is ∙ ap (λ r. r >>= λ p. getting p.0 p.1 p.2) (popped2 μ h)

  put_is : perform (bytes "put") μ ≡ (pop3 μ >>= λ p. putting p.0 p.1 p.2 p.3)
  unfolding textual perform find table ◌is◌ Floo.put
  put_is = refl

  pub put_under : length μ.stack < 3 → perform (bytes "put") μ ≡ fault StackUnderflow
  unfolding ◌>>=◌
  put_under h = put_is ∙ ap (λ r. r >>= λ p. putting p.0 p.1 p.2 p.3) (pop3_under μ h)

  pub put_on : 3 ≤ length μ.stack → perform (bytes "put") μ ≡ putting (get_or μ.stack 2 null) (get_or μ.stack 1 null) (get_or μ.stack 0 null) (popped 3 μ)
  unfolding ◌>>=◌
  put_on h = put_is ∙ ap (λ r. r >>= λ p. putting p.0 p.1 p.2 p.3) (popped3 μ h)

-- ---- aload, astore, ] and readonly

abbrev pub loading : Value → Machine → Result Machine
loading x τ = array_id x >>= λ i. ok (push x (with_stack (reverse (elements_of (object τ i)) ++ τ.stack) τ))

abbrev pub sealing : Value → Machine → Result Machine
sealing x τ = object_id x >>= λ i. ok (push x (protect i τ))

-- All items into array i,
abbrev pub storing_all : Value → Machine → ℕ → Result Machine
storing_all x τ i =
    check (leb (size (object τ i)) (length τ.stack)) StackUnderflow >>= λ u.
    ok (push x (change i (elements (reverse (take (size (object τ i)) τ.stack))) (with_stack (drop (size (object τ i)) τ.stack) τ)))

-- if it may be written to.
abbrev pub storing_into : Value → Machine → ℕ → Result Machine
storing_into x τ i = writable i τ >>= λ u. storing_all x τ i

abbrev pub storing : Value → Machine → Result Machine
storing x τ = array_id x >>= λ i. storing_into x τ i

module _ (μ : Machine) where
  aload_is : perform (bytes "aload") μ ≡ (pop1 μ >>= λ p. loading p.0 p.1)
  unfolding textual perform find table ◌is◌ Floo.aload
  aload_is = refl

  pub aload_under : length μ.stack < 1 → perform (bytes "aload") μ ≡ fault StackUnderflow
  unfolding ◌>>=◌
  aload_under h = aload_is ∙ ap (λ r. r >>= λ p. loading p.0 p.1) (pop1_under μ h)

  pub aload_on : 1 ≤ length μ.stack → perform (bytes "aload") μ ≡ loading (get_or μ.stack 0 null) (popped 1 μ)
  unfolding ◌>>=◌
  aload_on h = aload_is ∙ ap (λ r. r >>= λ p. loading p.0 p.1) (popped1 μ h)

  astore_is : perform (bytes "astore") μ ≡ (pop1 μ >>= λ p. storing p.0 p.1)
  unfolding textual perform find table ◌is◌ Floo.astore
  astore_is = refl

  pub astore_under : length μ.stack < 1 → perform (bytes "astore") μ ≡ fault StackUnderflow
  unfolding ◌>>=◌
  astore_under h = astore_is ∙ ap (λ r. r >>= λ p. storing p.0 p.1) (pop1_under μ h)

  pub astore_on : 1 ≤ length μ.stack → perform (bytes "astore") μ ≡ storing (get_or μ.stack 0 null) (popped 1 μ)
  unfolding ◌>>=◌
  astore_on h = astore_is ∙ ap (λ r. r >>= λ p. storing p.0 p.1) (popped1 μ h)

  readonly_is : perform (bytes "readonly") μ ≡ (pop1 μ >>= λ p. sealing p.0 p.1)
  unfolding textual perform find table ◌is◌ Floo.readonly
  readonly_is = refl

  pub readonly_under : length μ.stack < 1 → perform (bytes "readonly") μ ≡ fault StackUnderflow
  unfolding ◌>>=◌
  readonly_under h = readonly_is ∙ ap (λ r. r >>= λ p. sealing p.0 p.1) (pop1_under μ h)

  pub readonly_on : 1 ≤ length μ.stack → perform (bytes "readonly") μ ≡ sealing (get_or μ.stack 0 null) (popped 1 μ)
  unfolding ◌>>=◌
  readonly_on h = readonly_is ∙ ap (λ r. r >>= λ p. sealing p.0 p.1) (popped1 μ h)

  pub close_is_lem : perform (bytes "]") μ ≡ (above_mark [] μ.stack >>= λ p. ok (push_new (array false) (elements p.0) (with_stack p.1 μ)))
  unfolding textual perform find table ◌is◌ Floo.close
  close_is_lem = refl
