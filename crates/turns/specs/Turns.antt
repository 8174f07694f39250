-- A step on the topmost execution slot in which no operator and no name is executed.
-- Assumes nothing.
use Rattle.std.specs.Prelude.{◌≡◌, List, ℕ}
use Rattle.semantics.specs.Values.{Result}
use Rattle.semantics.specs.Machine as Floo
use Rattle.semantics.specs.Steps.{resume}
use Rattle.machine.specs.Rep.{Rep, Answer}
use Rattle.machine.specs.Room.{lent, fitted}
use Rattle.machine.specs.declared.Machine.{Machine}
use Rattle.machine.specs.Answers.{Did}
use Rattle.machine.specs.FrameMoves.{top_frame, frame_dropped}

-- What the topmost slot does when it acts, as the definition has it.
unfoldable pub resumed : Floo.Machine → Result Floo.Machine
resumed μ = (resume (top_frame μ) (frame_dropped μ)).result

-- A step that touches the words of execution slots and cells does f where there is room, or fails as f and the test of room do.
pub record DoesTurn (f : Floo.Machine → Result Floo.Machine) (m : Machine) (e e' c c' : List ℕ) (r : Did) : Type 0 where
  pub does : (s d l : List ℕ) (μ : Floo.Machine)
      → Rep m s e d c l μ
      → Answer (λ m'. Rep m' s e' d c' l) ((e' ≡ e) × (c' ≡ c)) r (fitted (lent s e d c l) f μ)

-- One that touches the stack's words alone and reads those of execution slots.
pub record DoesItems (f : Floo.Machine → Result Floo.Machine) (m : Machine) (s s' e : List ℕ) (r : Did) : Type 0 where
  pub does : (d c l : List ℕ) (μ : Floo.Machine)
      → Rep m s e d c l μ
      → Answer (λ m'. Rep m' s' e d c l) (s' ≡ s) r (fitted (lent s e d c l) f μ)

-- ---- tags

abbrev pub IsNot : ℕ → ℕ → Type 0
IsNot n tag = tag ≡ n → ⊥

-- The tag of neither an operator nor an executable name.
abbrev pub Quiet : ℕ → Type 0
Quiet tag = IsNot 4 tag × IsNot 6 tag
