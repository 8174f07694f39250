-- What takes the topmost execution slot away does to a machine of the definition.
-- Assumes nothing.
use Rattle.std.specs.Prelude.{List, ℕ, ◌-◌, ◌<◌, get_or, drop}
use Rattle.semantics.specs.Values.{Value, null}
use Rattle.semantics.specs.Machine as Floo
use Rattle.semantics.specs.Machine.{Frame, pending, with_exec, push}
use Rattle.machine.specs.Words.{frame_tag}
use Rattle.machine.specs.Places.{frame_value}
use Rattle.machine.specs.Rep.{Rep}
use Rattle.machine.specs.declared.Machine.{Machine}

-- The topmost execution slot, and its value.
abbrev pub top_frame : Floo.Machine → Frame
top_frame μ = get_or μ.exec 0 (pending null)

unfoldable pub top_value : Floo.Machine → Value
top_value μ = frame_value (top_frame μ)

-- The topmost execution slot goes.
unfoldable pub frame_dropped : Floo.Machine → Floo.Machine
frame_dropped μ = with_exec (drop 1 μ.exec) μ

-- The topmost execution slot goes, and its value is pushed.
unfoldable pub returned : Floo.Machine → Floo.Machine
returned μ = push (top_value μ) (frame_dropped μ)

-- The words of execution slots and cells stand for some machine.
abbrev pub Somewhere : Machine → List ℕ → List ℕ → Type 0
Somewhere m e c = (s : List ℕ) × (d : List ℕ) × (l : List ℕ) × (μ : Floo.Machine) × Rep m s e d c l μ

-- A primitive that touches the words of execution slots and cells does f.
pub record MovesFrames (f : Floo.Machine → Floo.Machine) (m r : Machine) (e e' c c' : List ℕ) : Type 0 where
  pub moves : (s d l : List ℕ) (μ : Floo.Machine) → Rep m s e d c l μ → Rep r s e' d c' l (f μ)

-- A primitive that touches the stack's words alone and reads the execution slots' does f.
pub record MovesItems (f : Floo.Machine → Floo.Machine) (m r : Machine) (s s' e : List ℕ) : Type 0 where
  pub moves : (d c l : List ℕ) (μ : Floo.Machine) → Rep m s e d c l μ → Rep r s' e d c l (f μ)

-- The topmost slot goes, where its words name no object.
pub record ForgetsFrame (m r : Machine) : Type 0 where
  pub moves : (s e d c l : List ℕ) (μ : Floo.Machine)
      → Rep m s e d c l μ
      → frame_tag e (m.frames - 1) < 8
      → Rep r s e d c l (frame_dropped μ)
