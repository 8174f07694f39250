-- What the operators on the flow of control promise: the definition's operator with the test of room after it.
-- Assumes nothing.
use Rattle.std.specs.Prelude.{◌≡◌, List, [], ◌++◌, ℕ, ◌+◌, ◌-◌, length, drop, Option, Some, None}
use Rattle.semantics.specs.Values.{Value, Result}
use Rattle.semantics.specs.Machine as Floo
use Rattle.semantics.specs.Machine.{with_stack, with_exec}
use Rattle.semantics.specs.ListLaws.{All}
use Rattle.semantics.specs.ControlOperators.{from_loop}
use Rattle.machine.specs.Places.{Nameless}
use Rattle.machine.specs.Rep.{Rep, Answer}
use Rattle.machine.specs.Room.{lent, fitted}
use Rattle.machine.specs.declared.Machine.{Machine}
use Rattle.machine.specs.Answers.{Did}

-- The words of stack and execution slots stand for some machine.
abbrev pub Represented : Machine → List ℕ → List ℕ → Type 0
Represented m s e = (d : List ℕ) × (c : List ℕ) × (l : List ℕ) × (μ : Floo.Machine) × Rep m s e d c l μ

-- An operator that touches no words.
pub record DoesState (f : Floo.Machine → Result Floo.Machine) (m : Machine) (r : Did) : Type 0 where
  pub does : (s e d c l : List ℕ) (μ : Floo.Machine)
      → Rep m s e d c l μ
      → Answer (λ m'. Rep m' s e d c l) (Unit {0}) r (fitted (lent s e d c l) f μ)

-- One that touches the execution slots' words alone and reads the stack's.
pub record DoesSlots (f : Floo.Machine → Result Floo.Machine) (m : Machine) (s e e' : List ℕ) (r : Did) : Type 0 where
  pub does : (d c l : List ℕ) (μ : Floo.Machine)
      → Rep m s e d c l μ
      → Answer (λ m'. Rep m' s e' d c l) (e' ≡ e) r (fitted (lent s e d c l) f μ)

-- One that touches the words of stack, execution slots and cells.
pub record DoesFrames (f : Floo.Machine → Result Floo.Machine) (m : Machine) (s s' e e' c c' : List ℕ) (r : Did) : Type 0 where
  pub does : (d l : List ℕ) (μ : Floo.Machine)
      → Rep m s e d c l μ
      → Answer (λ m'. Rep m' s' e' d c' l) ((s' ≡ s) × (e' ≡ e) × (c' ≡ c)) r (fitted (lent s e d c l) f μ)

-- One that touches the cells' words alone and reads the execution slots'.
pub record DoesCells (f : Floo.Machine → Result Floo.Machine) (m : Machine) (e c c' : List ℕ) (r : Did) : Type 0 where
  pub does : (s d l : List ℕ) (μ : Floo.Machine)
      → Rep m s e d c l μ
      → Answer (λ m'. Rep m' s e d c' l) (c' ≡ c) r (fitted (lent s e d c l) f μ)

-- ---- parts of operators

-- The topmost n items, which name no object, go.
pub record Forgets (n : ℕ) (m r : Machine) : Type 0 where
  pub moves : (old rest : List Value)
      → length old ≡ n
      → All Nameless old
      → (s e d c l : List ℕ) (μ : Floo.Machine)
      → μ.stack ≡ old ++ rest
      → Rep m s e d c l μ
      → Rep r s e d c l (with_stack rest μ)

-- The topmost n execution slots go.
unfoldable pub cut_by : ℕ → Floo.Machine → Floo.Machine
cut_by n μ = with_exec (drop n μ.exec) μ

-- There is no loop, or slot k from the bottom is the innermost one's.
abbrev pub LoopIs : Machine → Floo.Machine → Option ℕ → Type 0
LoopIs m μ None = from_loop μ.exec ≡ []
LoopIs m μ (Some k) = from_loop μ.exec ≡ drop (m.frames - (k + 1)) μ.exec

pub record FindsLoop (m : Machine) (e : List ℕ) (r : Option ℕ) : Type 0 where
  pub says : (s d c l : List ℕ) (μ : Floo.Machine) → Rep m s e d c l μ → LoopIs m μ r
