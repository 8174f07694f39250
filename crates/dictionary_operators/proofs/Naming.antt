-- def and load by the tags of their operands: an item whose tag is that of a literal name has a name with a slot, and the tag of the slot's binding says whether
-- the name is bound.
-- Assumes nothing.
use mathlib.Core.Path.{◌≡◌, refl, sym, ap, ◌∙◌}
use mathlib.Core.Bool.{Bool, false}
use mathlib.Core.List.{List, ◌∷◌}
use mathlib.Core.Option.{none, some}
use Prim.Native.Nat.{ℕ, suc, ◌+◌, ◌≤◌, ◌<◌}
use native.Mathlib.Omega.{arith}
use lib.ListN.{length, get_or, drop, set, get_elem?}
use Rattle.semantics.specs.Text.{bytes, textual}
use Rattle.semantics.specs.Values.{Value, Result, name, null, ok, fault, ◌>>=◌, given, literal_name}
use Rattle.semantics.specs.Machine as Floo
use Rattle.semantics.specs.Machine.{with_stack, with_dictionary, push, pop2, lookup, assign}
use Rattle.semantics.specs.Operators.{perform, find, table, ◌is◌}
use Rattle.semantics.specs.ControlOperators.{def, load}
use Rattle.semantics.specs.declared.Error.TheVariants.{StackUnderflow, TypeCheck, Undefined}
use Rattle.store.specs.Rep.{Stands, a_null, an_integer, a_boolean, a_mark, an_operator, a_literal, an_executable, a_string, an_array, a_procedure}
use Rattle.store.proofs.Standing.{is_literal}
use Rattle.machine.specs.Words.{item_tag, item_payload, binding_tag}
use Rattle.machine.specs.Places.{keys}
use Rattle.machine.specs.Rep.{Rep}
use Rattle.machine.specs.Moves.{dropped}
use Rattle.machine.specs.declared.Machine.{Machine}
use Rattle.machine.proofs.Copying.{word_of}
use Rattle.machine.proofs.Operands.{pop1_some, pop2_some, pop1_under, pop2_under}
use Rattle.machine.proofs.Outcomes.{stack_depth, first_item, two_items}
use Rattle.dictionary.proofs.Rebinding.{binding_at_lem, bound_none, bound_some}

pub load_is : (μ : Floo.Machine) → perform (bytes "load") μ ≡ load μ
unfolding textual perform find table ◌is◌
load_is μ = refl

-- ---- an item that is no literal name, and one that is

stands_no_name : {ks : List (List ℕ)} {texts : List Bool} {ρ : ℕ → ℕ} {v : Value} {t p : ℕ} → Stands ks texts ρ v t p → (t ≡ 5 → ⊥) → literal_name v ≡ fault TypeCheck
unfolding literal_name
stands_no_name a_null n = refl
stands_no_name an_integer n = refl
stands_no_name a_boolean n = refl
stands_no_name a_mark n = refl
stands_no_name (an_operator q) n = refl
stands_no_name (a_literal q) n = absurd (n refl)
stands_no_name (an_executable q) n = refl
stands_no_name (a_string q k) n = refl
stands_no_name (an_array q k) n = refl
stands_no_name (a_procedure q k) n = refl

-- Item i is a literal name, which has the slot that its payload says.
pub record Named (i p : ℕ) (μ : Floo.Machine) : Type 0 where
  pub text : List ℕ
  pub item : get_or μ.stack i null ≡ name false text
  pub slot : get_elem? (keys μ) p ≡ some text

module _ {m : Machine} {s e d c l : List ℕ} {μ : Floo.Machine} (R : Rep m s e d c l μ) (i k : ℕ) (h : m.depth ≡ k + suc i) where
  no_name : (item_tag s k ≡ 5 → ⊥) → literal_name (get_or μ.stack i null) ≡ fault TypeCheck
  no_name = stands_no_name (word_of R i k h).stands

  pub named : item_tag s k ≡ 5 → Named i (item_payload s k) μ
  named q =
      let y = is_literal (word_of R i k h).stands q in
      record { text = y.0; item = y.1; slot = y.2 }

-- ---- whether a name is bound

module _ {m : Machine} {s e d c l : List ℕ} {μ : Floo.Machine} (R : Rep m s e d c l μ) (k : ℕ) (n : List ℕ) (key : get_elem? (keys μ) k ≡ some n) where
  pub name_unbound : binding_tag d k ≡ 7 → lookup n μ.dictionary ≡ none
  name_unbound q = bound_none (binding_at_lem R k n key).0 q

  pub name_bound : (binding_tag d k ≡ 7 → ⊥) → (v : Value) × (lookup n μ.dictionary ≡ some v)
  name_bound q = bound_some (binding_at_lem R k n key).0 q

-- ---- a name and an object above it

-- What takes them.
abbrev pub on_named : (List ℕ → Value → Floo.Machine → Result Floo.Machine) → Floo.Machine → Result Floo.Machine
on_named k μ = pop2 μ >>= λ p. literal_name p.0 >>= λ n. k n p.1 p.2

module _ (k : List ℕ → Value → Floo.Machine → Result Floo.Machine) (μ : Floo.Machine) where
  pub named_under : length μ.stack < 2 → on_named k μ ≡ fault StackUnderflow
  unfolding ◌>>=◌
  named_under h = ap (λ r. r >>= λ p. literal_name p.0 >>= λ n. k n p.1 p.2) (pop2_under μ h)

  taking : {y x : Value} {s : List Value} → μ.stack ≡ y ∷ x ∷ s → on_named k μ ≡ (literal_name x >>= λ n. k n y (with_stack s μ))
  unfolding ◌>>=◌
  taking q = ap (λ r. r >>= λ p. literal_name p.0 >>= λ n. k n p.1 p.2) (pop2_some μ q)

  pub named_type : 2 ≤ length μ.stack → literal_name (get_or μ.stack 1 null) ≡ fault TypeCheck → on_named k μ ≡ fault TypeCheck
  unfolding ◌>>=◌
  named_type h q =
      let f = two_items μ.stack h in
      let same : get_or μ.stack 1 null ≡ f.1 = ap (λ t. get_or t 1 null) f.3 in
      taking f.3 ∙ ap (λ r. r >>= λ n. k n f.0 (with_stack f.2 μ)) (ap literal_name (sym same) ∙ q)

  pub named_done : (n : List ℕ)
      → 2 ≤ length μ.stack
      → get_or μ.stack 1 null ≡ name false n
      → on_named k μ ≡ k n (get_or μ.stack 0 null) (dropped (dropped μ))
  unfolding ◌>>=◌ literal_name with_stack dropped
  named_done n h q =
      let f = two_items μ.stack h in
      let same : get_or μ.stack 1 null ≡ f.1 = ap (λ t. get_or t 1 null) f.3 in
      taking f.3
      ∙ ap (λ x. literal_name x >>= λ n. k n f.0 (with_stack f.2 μ)) (sym same ∙ q)
      ∙ sym (ap (λ (t : List Value). k n (get_or t 0 null) (with_stack (drop 1 (drop 1 t)) μ)) f.3)

-- The same of machines that the words stand for.
pub named_typed : (k : List ℕ → Value → Floo.Machine → Result Floo.Machine) {m : Machine} {s e d c l : List ℕ} {μ : Floo.Machine}
    → Rep m s e d c l μ
    → (i : ℕ)
    → m.depth ≡ i + 2
    → (item_tag s i ≡ 5 → ⊥)
    → on_named k μ ≡ fault TypeCheck
named_typed k {μ = μ} R i h q = named_type k μ (omega (arith, stack_depth R)) (no_name R 1 i (omega arith) q)

-- ---- def

abbrev defining : List ℕ → Value → Floo.Machine → Result Floo.Machine
defining n v τ = ok (with_dictionary (assign n v τ.dictionary) τ)

pub def_is : (μ : Floo.Machine) → perform (bytes "def") μ ≡ on_named defining μ
unfolding textual perform find table ◌is◌ def
def_is μ = refl

module _ (μ : Floo.Machine) where
  pub def_under : length μ.stack < 2 → perform (bytes "def") μ ≡ fault StackUnderflow
  def_under h = def_is μ ∙ named_under defining μ h

  pub def_done : (n : List ℕ)
      → 2 ≤ length μ.stack
      → get_or μ.stack 1 null ≡ name false n
      → perform (bytes "def") μ ≡ ok (dropped (dropped (with_dictionary (assign n (get_or μ.stack 0 null) μ.dictionary) μ)))
  unfolding with_stack with_dictionary dropped
  def_done n h q = def_is μ ∙ named_done defining μ n h q

  -- ---- load

  pub load_under : length μ.stack < 1 → perform (bytes "load") μ ≡ fault StackUnderflow
  unfolding load ◌>>=◌
  load_under h = load_is μ ∙ ap (λ r. r >>= λ p. literal_name p.0 >>= λ n. given (lookup n p.1.dictionary) Undefined >>= λ v. ok (push v p.1)) (pop1_under μ h)

  loading : {x : Value} {s : List Value} → μ.stack ≡ x ∷ s → perform (bytes "load") μ ≡ (literal_name x >>= λ n. given (lookup n (with_stack s μ).dictionary) Undefined >>= λ v. ok (push v (with_stack s μ)))
  unfolding load ◌>>=◌
  loading q = load_is μ ∙ ap (λ r. r >>= λ p. literal_name p.0 >>= λ n. given (lookup n p.1.dictionary) Undefined >>= λ v. ok (push v p.1)) (pop1_some μ q)

  pub load_type : 1 ≤ length μ.stack → literal_name (get_or μ.stack 0 null) ≡ fault TypeCheck → perform (bytes "load") μ ≡ fault TypeCheck
  unfolding ◌>>=◌
  load_type h q =
      let f = first_item μ.stack h in
      let same : get_or μ.stack 0 null ≡ f.0 = ap (λ t. get_or t 0 null) f.2 in
      loading f.2
      ∙ ap (λ r. r >>= λ n. given (lookup n (with_stack f.1 μ).dictionary) Undefined >>= λ v. ok (push v (with_stack f.1 μ))) (ap literal_name (sym same) ∙ q)

  module _ (n : List ℕ) (h : 1 ≤ length μ.stack) (q : get_or μ.stack 0 null ≡ name false n) where
    looked_up : (s : List Value) (x : Value) → μ.stack ≡ x ∷ s → perform (bytes "load") μ ≡ (given (lookup n μ.dictionary) Undefined >>= λ v. ok (with_stack (v ∷ s) μ))
    unfolding ◌>>=◌ literal_name push with_stack
    looked_up s x e =
        loading e
        ∙ ap (λ x. literal_name x >>= λ n. given (lookup n (with_stack s μ).dictionary) Undefined >>= λ v. ok (push v (with_stack s μ))) (sym (ap (λ t. get_or t 0 null) e) ∙ q)

    pub load_undefined : lookup n μ.dictionary ≡ none → perform (bytes "load") μ ≡ fault Undefined
    unfolding ◌>>=◌ given
    load_undefined e =
        let f = first_item μ.stack h in
        looked_up f.1 f.0 f.2 ∙ ap (λ o. given o Undefined >>= λ v. ok (with_stack (v ∷ f.1) μ)) e

    pub load_done : (v : Value) → lookup n μ.dictionary ≡ some v → perform (bytes "load") μ ≡ ok (with_stack (set μ.stack 0 v) μ)
    unfolding ◌>>=◌ given
    load_done v e =
        let f = first_item μ.stack h in
        looked_up f.1 f.0 f.2
        ∙ ap (λ o. given o Undefined >>= λ v. ok (with_stack (v ∷ f.1) μ)) e
        ∙ sym (ap (λ (t : List Value). ok (with_stack (set t 0 v) μ)) f.2)

-- ---- the same of machines that the words stand for

module _ {m : Machine} {s e d c l : List ℕ} {μ : Floo.Machine} (R : Rep m s e d c l μ) (k : ℕ) where
  pub def_typed : m.depth ≡ k + 2 → (item_tag s k ≡ 5 → ⊥) → perform (bytes "def") μ ≡ fault TypeCheck
  def_typed h q = def_is μ ∙ named_typed defining R k h q

  pub load_typed : m.depth ≡ k + 1 → (item_tag s k ≡ 5 → ⊥) → perform (bytes "load") μ ≡ fault TypeCheck
  load_typed h q = load_type μ (omega (arith, stack_depth R)) (no_name R 0 k (omega arith) q)
