-- A step of the runner against the definition's.
-- Assumes nothing.
use Rattle.std.specs.Prelude.{◌≡◌, Bool, List, ℕ, ◌+◌, ◌≤◌, ◌<◌, length, drop, Some, None, Ok, Err}
use Rattle.semantics.specs.Sizes.{script_most, fuel_most}
use Rattle.semantics.specs.Errors.{error_text}
use Rattle.semantics.specs.Machine as Floo
use Rattle.semantics.specs.Machine.{lookup}
use Rattle.semantics.specs.Steps as steps
use Rattle.semantics.specs.Steps.{failing}
use Rattle.semantics.specs.declared.Error.{Error}
use Rattle.semantics.specs.declared.Fault.{Fault}
use Rattle.ending.specs.Endings.{command_text, IsCommand, after_of}
use Rattle.ending.specs.declared.Command.{Command}
use Rattle.ending.specs.declared.Command.TheVariants.{Nothing, Taken}
use Rattle.machine.specs.Places.{keys}
use Rattle.machine.specs.Rep.{Rep}
use Rattle.machine.specs.Room.{lent}
use Rattle.machine.specs.Answers.{Did}
use Rattle.group_taking.specs.Taking.{Grouped}
use Rattle.group_taking.specs.declared.GroupError.TheVariants as group
use Rattle.handover.specs.Handover.{left_of, Passable, Handed}
use Rattle.step.specs.declared.State.{State}
use Rattle.step.specs.declared.Stepped.{Stepped}
use Rattle.step.specs.declared.Stepped.TheVariants.{Goes, Fails, Misreads}

-- The state of the definition, with this machine.
abbrev pub state_of : State → Floo.Machine → steps.State
state_of σ μ = record { machine = μ; next = σ.next; at = σ.at; steps = σ.steps }

-- ---- what a step answers

-- The state after it; or the state before it with the step counted and `at` set, and the error and the command, or what is wrong with the token.
abbrev pub SteppedAs : List ℕ → State → List ℕ → List ℕ → List ℕ → List ℕ → List ℕ → List ℕ → List ℕ → List ℕ → List ℕ → List ℕ → Floo.Machine → Stepped → Type 0
SteppedAs script σ s s' e e' d d' c c' l l' μ (Goes τ) =
    (ν : Floo.Machine) × (steps.step (lent s e d c l) script (state_of σ μ) ≡ steps.goes (state_of τ ν))
    × Rep τ.machine s' e' d' c' l' ν × (τ.next ≤ length script) × (τ.at ≤ length script)
SteppedAs script σ s s' e e' d d' c c' l l' μ (Fails τ x command) =
    (steps.step (lent s e d c l) script (state_of σ μ) ≡ steps.fails x (command_text script (keys μ) command) (state_of τ μ))
    × Rep τ.machine s' e' d' c' l' μ × IsCommand script (keys μ) command × (τ.at ≤ length script)
SteppedAs script σ s s' e e' d d' c c' l l' μ (Misreads τ command f) =
    (steps.step (lent s e d c l) script (state_of σ μ) ≡ steps.misreads f (state_of τ μ)) × Rep τ.machine s' e' d' c' l' μ × (τ.at ≤ length script)

-- What a step comes to before its error is handed over (02, W1): where it failed, the definition looks for the error's handler, with these offsets and this
-- execution stack once what failed is taken; and the topmost slot can fail.
abbrev pub TriedAs : List ℕ → State → List ℕ → List ℕ → List ℕ → List ℕ → List ℕ → List ℕ → List ℕ → List ℕ → List ℕ → List ℕ → Floo.Machine → Stepped → Type 0
TriedAs script σ s s' e e' d d' c c' l l' μ (Goes τ) = SteppedAs script σ s s' e e' d d' c c' l l' μ (Goes τ)
TriedAs script σ s s' e e' d d' c c' l l' μ (Fails τ x command) =
    (steps.step (lent s e d c l) script (state_of σ μ)
    ≡ failing (lent s e d c l) (state_of σ μ) τ.at (after_of σ.next command) (left_of μ.exec) x (command_text script (keys μ) command) (lookup (error_text x) μ.handlers))
    × Rep σ.machine s' e' d' c' l' μ × IsCommand script (keys μ) command × Passable σ.machine e'
    × (after_of σ.next command ≤ length script) × (τ.at ≤ length script)
    × (τ ≡ record { machine = σ.machine; next = σ.next; at = τ.at; steps = σ.steps + 1 })
TriedAs script σ s s' e e' d d' c c' l l' μ (Misreads τ command f) = SteppedAs script σ s s' e e' d d' c c' l l' μ (Misreads τ command f)

-- The log past what is written is as before.
abbrev pub LogLeft : List ℕ → List ℕ → Stepped → Type 0
LogLeft l l' (Goes τ) = drop τ.machine.written l' ≡ drop τ.machine.written l
LogLeft l l' (Fails τ x command) = l' ≡ l
LogLeft l l' (Misreads τ command f) = l' ≡ l

pub record Steps (script : List ℕ) (σ : State) (s s' e e' d d' c c' l l' : List ℕ) (r : Stepped) : Type 0 where
  pub steps : (μ : Floo.Machine) → Rep σ.machine s e d c l μ → SteppedAs script σ s s' e e' d d' c c' l l' μ r
  pub left : LogLeft l l' r

pub record Tries (script : List ℕ) (σ : State) (s s' e e' d d' c c' l l' : List ℕ) (r : Stepped) : Type 0 where
  pub tries : (μ : Floo.Machine) → Rep σ.machine s e d c l μ → TriedAs script σ s s' e e' d d' c c' l l' μ r
  pub left : LogLeft l l' r

-- A step that takes a token: it does not touch the log.
pub record TriesToken (script : List ℕ) (σ : State) (s s' e e' d d' c c' : List ℕ) (r : Stepped) : Type 0 where
  pub tries : (l : List ℕ) (μ : Floo.Machine) → Rep σ.machine s e d c l μ → TriedAs script σ s s' e e' d d' c c' l l μ r

-- A step of the topmost slot: it does not read the script.
pub record TriesSlot (σ : State) (s s' e e' d d' c c' l l' : List ℕ) (r : Stepped) : Type 0 where
  pub tries : (script : List ℕ) → σ.next ≤ length script → σ.at ≤ length script → Tries script σ s s' e e' d d' c c' l l' r

-- ---- what is asked

-- The script and the counts are as setup has them, and the words stand for some machine.
pub record Ready (script : List ℕ) (σ : State) (s e d c l : List ℕ) : Type 0 where
  pub short : length script ≤ script_most
  pub inside : σ.next ≤ length script
  pub within : σ.at ≤ length script
  pub few : σ.steps < fuel_most
  pub machine : (μ : Floo.Machine) × Rep σ.machine s e d c l μ

abbrev pub ReadySlot : State → List ℕ → List ℕ → List ℕ → List ℕ → List ℕ → Type 0
ReadySlot σ s e d c l = (script : List ℕ) × Ready script σ s e d c l

abbrev pub ReadyToken : List ℕ → State → List ℕ → List ℕ → List ℕ → List ℕ → Type 0
ReadyToken script σ s e d c = (l : List ℕ) × Ready script σ s e d c l × (σ.machine.frames ≡ 0)

-- ---- the step's end

abbrev pub ended_by : State → ℕ → ℕ → Command → Did → Stepped
ended_by σ at next command (Ok r) = Goes (record { machine = r; next = next; at = at; steps = σ.steps + 1 })
ended_by σ at next command (Err e) = Fails (record { machine = σ.machine; next = σ.next; at = at; steps = σ.steps + 1 }) e command

-- An error is handed over, or ends the run.
abbrev pub handed_by : State → Error → Command → Handed → Stepped
handed_by τ x command (Some r) = Goes (record { machine = r; next = after_of τ.next command; at = τ.at; steps = τ.steps })
handed_by τ x command None = Fails τ x command

abbrev pub misread_by : State → ℕ → Fault → Stepped
misread_by σ at f = Misreads (record { machine = σ.machine; next = σ.next; at = at; steps = σ.steps + 1 }) Nothing f

abbrev pub grouped_by : State → ℕ → Grouped → Stepped
grouped_by σ at (Ok (r, next)) = Goes (record { machine = r; next = next; at = at; steps = σ.steps + 1 })
grouped_by σ at (Err (group.Failed e next)) = Fails (record { machine = σ.machine; next = σ.next; at = at; steps = σ.steps + 1 }) e (Taken next)
grouped_by σ at (Err (group.Misread f)) = misread_by σ at f

-- ---- the run's end

-- Whether the run is finished in this state, as the definition asks it.
pub record Finished (script : List ℕ) (σ : State) (r : Bool) : Type 0 where
  pub says : (μ : Floo.Machine) → length μ.exec ≡ σ.machine.frames → r ≡ steps.is_finished script (state_of σ μ)
