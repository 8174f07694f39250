-- The operator that a step executes, where it is one of the frequent.
-- Assumes nothing.
use Rattle.std.specs.Prelude.{◌≡◌, List, ℕ, ◌-◌, ◌<◌, ◌≤◌, Option, Some, None}
use Rattle.semantics.specs.Machine as Floo
use Rattle.heap.specs.Word.{word}
use Rattle.machine.specs.Words.{frame_kind, frame_tag, frame_payload, frame_cell, frame_left}
use Rattle.machine.specs.Rep.{Rep}
use Rattle.machine.specs.Room.{lent, fitted}
use Rattle.machine.specs.declared.Machine.{Machine}
use Rattle.frames.specs.Moves.{reset_words}
use Rattle.operators.specs.Titles.{perform_at}
use Rattle.turns.specs.Turns.{resumed}

-- The step comes to this operator, on what the words then stand for: the slot has gone, or the procedure has moved on. Three words of the slot put it back.
pub record Executes (number : ℕ) (m after : Machine) (e e' c : List ℕ) : Type 0 where
  pub few : number < 42
  pub stands : (s d l : List ℕ) (μ : Floo.Machine)
      → Rep m s e d c l μ
      → (ν : Floo.Machine) × Rep after s e' d c l ν × (fitted (lent s e d c l) resumed μ ≡ fitted (lent s e' d c l) (perform_at number) ν)
  pub back : reset_words (frame_kind e (m.frames - 1)) (frame_cell e (m.frames - 1)) (frame_left e (m.frames - 1)) m e' ≡ e

-- An operator that the topmost slot executes is a rare one.
pub record Infrequent (m : Machine) (e c : List ℕ) : Type 0 where
  pub pending : frame_kind e (m.frames - 1) ≡ 0 → frame_tag e (m.frames - 1) ≡ 4 → 42 ≤ frame_payload e (m.frames - 1)
  pub element : frame_kind e (m.frames - 1) ≡ 1
      → 1 ≤ frame_left e (m.frames - 1)
      → word c (frame_cell e (m.frames - 1)) 0 ≡ 4
      → 42 ≤ word c (frame_cell e (m.frames - 1)) 1

abbrev pub NextIs : Machine → List ℕ → List ℕ → List ℕ → Option (ℕ × Machine) → Type 0
NextIs m e e' c (Some (number, after)) = Executes number m after e e' c
NextIs m e e' c None = (e' ≡ e) × Infrequent m e c
