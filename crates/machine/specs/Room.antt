-- The room that is lent, and operators with the definition's test of room after them.
-- Assumes nothing.
use Rattle.std.specs.Prelude.{◌≡◌, List, ℕ, ◌/◌, length}
use Rattle.semantics.specs.Values.{Result, ◌>>=◌}
use Rattle.semantics.specs.Machine as Floo
use Rattle.semantics.specs.Steps.{Limits, room_for}
use Rattle.heap.specs.Shape.{cells}
use Rattle.machine.specs.Rep.{Rep, Answer}
use Rattle.machine.specs.declared.Machine.{Machine}
use Rattle.machine.specs.Answers.{Did}

-- What the words of stack, execution stack, dictionary and cells, and the log's bytes have room for.
unfoldable pub lent : List ℕ → List ℕ → List ℕ → List ℕ → List ℕ → Limits
lent s e d c l =
    record {
      stack_slots = length s / 2;
      exec_slots = length e / 8;
      dictionary_slots = length d / 12;
      cell_count = cells c;
      log_bytes = length l;
    }

-- An operator and then the test of room, as a step has them.
unfoldable pub fitted : Limits → (Floo.Machine → Result Floo.Machine) → Floo.Machine → Result Floo.Machine
fitted limits f μ = f μ >>= room_for limits μ

-- An operator that touches the stack's words alone does f where there is room, or fails as f and the test of room do.
pub record DoesStack (f : Floo.Machine → Result Floo.Machine) (m : Machine) (s s' : List ℕ) (r : Did) : Type 0 where
  pub does : (e d c l : List ℕ) (μ : Floo.Machine) → Rep m s e d c l μ → Answer (λ m'. Rep m' s' e d c l) (s' ≡ s) r (fitted (lent s e d c l) f μ)

-- The same of one that touches the words of stack and cells.
pub record DoesHeap (f : Floo.Machine → Result Floo.Machine) (m : Machine) (s s' c c' : List ℕ) (r : Did) : Type 0 where
  pub does : (e d l : List ℕ) (μ : Floo.Machine)
      → Rep m s e d c l μ
      → Answer (λ m'. Rep m' s' e d c' l) ((s' ≡ s) × (c' ≡ c)) r (fitted (lent s e d c l) f μ)
