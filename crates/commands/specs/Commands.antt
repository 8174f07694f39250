-- The command that the topmost execution slot hands on in the definition, and the command that a value is.
-- Assumes nothing.
use Rattle.std.specs.Prelude.{◌≡◌, Bool, List, ℕ}
use Rattle.semantics.specs.Values.{Value}
use Rattle.semantics.specs.Machine as Floo
use Rattle.semantics.specs.Steps.{command_of, resume}
use Rattle.store.specs.Rep.{Stands}
use Rattle.machine.specs.Places.{keys}
use Rattle.machine.specs.Rep.{Rep}
use Rattle.machine.specs.declared.Machine.{Machine}
use Rattle.machine.specs.FrameMoves.{top_frame, frame_dropped}
use Rattle.ending.specs.Endings.{command_text, IsCommand, after_of}
use Rattle.ending.specs.declared.Command.{Command}

-- Each value of these two words is this command, which is no token of the script.
pub record CommandIs (tag pay : ℕ) (r : Command) : Type 0 where
  pub says : (script : List ℕ) (names : List (List ℕ)) (texts : List Bool) (ρ : ℕ → ℕ) (v : Value)
      → Stands names texts ρ v tag pay
      → (command_text script names r ≡ command_of v) × IsCommand script names r
  pub stays : (next : ℕ) → after_of next r ≡ next

-- The topmost slot of each machine of these words executes this command.
pub record Commands (m : Machine) (e c : List ℕ) (r : Command) : Type 0 where
  pub says : (script s d l : List ℕ) (μ : Floo.Machine)
      → Rep m s e d c l μ
      → (command_text script (keys μ) r ≡ (resume (top_frame μ) (frame_dropped μ)).command) × IsCommand script (keys μ) r
  pub stays : (next : ℕ) → after_of next r ≡ next
