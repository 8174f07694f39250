-- What bind does to the elements of a procedure.
-- Assumes nothing.
use Rattle.std.specs.Prelude.{◌≡◌, true, List, map, ℕ, ◌<◌, length, get_or, set}
use Rattle.semantics.specs.Values.{Value, null, array, elements}
use Rattle.semantics.specs.Machine as Floo
use Rattle.semantics.specs.Machine.{object, elements_of, change}
use Rattle.semantics.specs.ControlOperators.{bound}
use Rattle.machine.specs.Rep.{Rep}
use Rattle.machine.specs.declared.Machine.{Machine}

-- Item 0 is the procedure id.
abbrev pub IsProcedure : Floo.Machine → ℕ → Type 0
IsProcedure μ id = get_or μ.stack 0 null ≡ array true id

abbrev pub elements_in : Floo.Machine → ℕ → List Value
elements_in μ id = elements_of (object μ id)

-- The words of stack, dictionary and cells stand for some machine in which item 0 is a procedure.
abbrev pub HasProcedure : Machine → List ℕ → List ℕ → List ℕ → Type 0
HasProcedure m s d c = (e : List ℕ) × (l : List ℕ) × (μ : Floo.Machine) × (id : ℕ) × IsProcedure μ id × Rep m s e d c l μ

-- The procedure has an element q.
abbrev pub HasElementAt : ℕ → Machine → List ℕ → List ℕ → List ℕ → Type 0
HasElementAt q m s d c =
    (e : List ℕ) × (l : List ℕ) × (μ : Floo.Machine) × (id : ℕ) × IsProcedure μ id × (q < length (elements_in μ id)) × Rep m s e d c l μ

-- Element q is bound.
pub record BindsElement (q : ℕ) (m r : Machine) (s d c c' : List ℕ) : Type 0 where
  pub moves : (e l : List ℕ) (μ : Floo.Machine)
      → Rep m s e d c l μ
      → (id : ℕ)
      → IsProcedure μ id
      → Rep r s e d c' l (change id (elements (set (elements_in μ id) q (bound μ (get_or (elements_in μ id) q null)))) μ)

-- Each element is.
pub record BindsElements (m r : Machine) (s d c c' : List ℕ) : Type 0 where
  pub moves : (e l : List ℕ) (μ : Floo.Machine)
      → Rep m s e d c l μ
      → (id : ℕ)
      → IsProcedure μ id
      → Rep r s e d c' l (change id (elements (map (bound μ) (elements_in μ id))) μ)
