-- A value that some place holds is copied to the stack. Items are counted from the top, from 0.
-- Assumes nothing.
use Rattle.std.specs.Prelude.{List, ℕ, set}
use Rattle.semantics.specs.Values.{Value}
use Rattle.semantics.specs.Machine as Floo
use Rattle.semantics.specs.Machine.{with_stack, push}
use Rattle.machine.specs.Rep.{Rep, IsIn}
use Rattle.machine.specs.declared.Machine.{Machine}

-- The words of stack and cells stand for some machine, in which the words t and p are a value.
abbrev pub HeldItems : ℕ → ℕ → Machine → List ℕ → List ℕ → Type 0
HeldItems t p m s c =
    (e : List ℕ) × (d : List ℕ) × (l : List ℕ) × (μ : Floo.Machine) × (R : Rep m s e d c l μ) × (v : Value) × IsIn R.world μ v t p

-- A copy of the value is pushed.
pub record PushesValue (t p : ℕ) (m r : Machine) (s s' c c' : List ℕ) : Type 0 where
  pub moves : (e d l : List ℕ) (μ : Floo.Machine) (R : Rep m s e d c l μ) (v : Value)
      → IsIn R.world μ v t p
      → Rep r s' e d c' l (push v μ)

-- Item i gives way to it.
pub record PutsValue (i t p : ℕ) (m r : Machine) (s s' c c' : List ℕ) : Type 0 where
  pub moves : (e d l : List ℕ) (μ : Floo.Machine) (R : Rep m s e d c l μ) (v : Value)
      → IsIn R.world μ v t p
      → Rep r s' e d c' l (with_stack (set μ.stack i v) μ)
