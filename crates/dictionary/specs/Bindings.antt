-- What the primitives on bindings do to a machine of the definition. Items are counted from the top, from 0.
-- Assumes nothing.
use Rattle.std.specs.Prelude.{◌≡◌, false, List, ℕ, get_or, set}
use Rattle.std.proofs.Math.Option.{some}
use Rattle.std.proofs.Math.ListN.{get_elem?}
use Rattle.semantics.specs.Values.{Value, null, name}
use Rattle.semantics.specs.Machine as Floo
use Rattle.semantics.specs.Machine.{pending, with_stack, with_dictionary, enter, lookup, assign}
use Rattle.machine.specs.Places.{keys}
use Rattle.machine.specs.Rep.{Rep}
use Rattle.machine.specs.declared.Machine.{Machine}

-- The name n has the slot k, and this value.
pub record HasBinding (k : ℕ) (n : List ℕ) (v : Value) (μ : Floo.Machine) : Type 0 where
  pub slot : get_elem? (keys μ) k ≡ some n
  pub value : lookup n μ.dictionary ≡ some v

-- The words stand for some machine in which the slot k is bound: those of stack, dictionary and cells, or of execution slots, dictionary and cells.
abbrev pub BoundItems : ℕ → Machine → List ℕ → List ℕ → List ℕ → Type 0
BoundItems k m s d c =
    (e : List ℕ) × (l : List ℕ) × (μ : Floo.Machine) × (n : List ℕ) × (v : Value) × HasBinding k n v μ × Rep m s e d c l μ

abbrev pub BoundFrames : ℕ → Machine → List ℕ → List ℕ → List ℕ → Type 0
BoundFrames k m e d c =
    (s : List ℕ) × (l : List ℕ) × (μ : Floo.Machine) × (n : List ℕ) × (v : Value) × HasBinding k n v μ × Rep m s e d c l μ

-- The words of stack, dictionary and cells stand for some machine in which a name has the slot k.
abbrev pub NamedItems : ℕ → Machine → List ℕ → List ℕ → List ℕ → Type 0
NamedItems k m s d c =
    (e : List ℕ) × (l : List ℕ) × (μ : Floo.Machine) × (n : List ℕ) × (get_elem? (keys μ) k ≡ some n) × Rep m s e d c l μ

-- Item i gives way to a copy of the binding of the slot k.
pub record LoadsBinding (k i : ℕ) (m r : Machine) (s s' d c c' : List ℕ) : Type 0 where
  pub moves : (e l : List ℕ) (μ : Floo.Machine)
      → Rep m s e d c l μ
      → (n : List ℕ) (v : Value)
      → get_elem? (keys μ) k ≡ some n
      → lookup n μ.dictionary ≡ some v
      → Rep r s' e d c' l (with_stack (set μ.stack i v) μ)

-- A copy of it becomes pending.
pub record PendsBinding (k : ℕ) (m r : Machine) (e e' d c c' : List ℕ) : Type 0 where
  pub moves : (s l : List ℕ) (μ : Floo.Machine)
      → Rep m s e d c l μ
      → (n : List ℕ) (v : Value)
      → get_elem? (keys μ) k ≡ some n
      → lookup n μ.dictionary ≡ some v
      → Rep r s e' d c' l (enter (pending v) μ)

-- It becomes a copy of item i.
pub record BindsItem (k i : ℕ) (m r : Machine) (s d d' c c' : List ℕ) : Type 0 where
  pub moves : (e l : List ℕ) (μ : Floo.Machine)
      → Rep m s e d c l μ
      → (n : List ℕ)
      → get_elem? (keys μ) k ≡ some n
      → Rep r s e d' c' l (with_dictionary (assign n (get_or μ.stack i null) μ.dictionary) μ)

-- The words of stack and cells stand for some machine in which a name has the slot k.
abbrev pub NamedStack : ℕ → Machine → List ℕ → List ℕ → Type 0
NamedStack k m s c =
    (e : List ℕ) × (d : List ℕ) × (l : List ℕ) × (μ : Floo.Machine) × (n : List ℕ) × (get_elem? (keys μ) k ≡ some n) × Rep m s e d c l μ

-- Item i gives way to the literal name that has the slot k.
pub record PutsName (k i : ℕ) (m r : Machine) (s s' c c' : List ℕ) : Type 0 where
  pub moves : (e d l : List ℕ) (μ : Floo.Machine)
      → Rep m s e d c l μ
      → (n : List ℕ)
      → get_elem? (keys μ) k ≡ some n
      → Rep r s' e d c' l (with_stack (set μ.stack i (name false n)) μ)
