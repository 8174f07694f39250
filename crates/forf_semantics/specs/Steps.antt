-- Steps and runs (02, W10; 01, Steps, Order within a step, Room).
-- Assumes nothing.
use Rattle.std.specs.Prelude.{Bool, true, false, List, [], ◌∷◌, ℕ, zero, suc, length, leb, eqb}
use Rattle.semantics.specs.Printing.{name_text}
use Rattle.semantics.specs.Values.{ok, fault, ◌>>=◌, check}
use Rattle.forf_semantics.specs.Errors.{Result}
use Rattle.forf_semantics.specs.Items.{Item, number, word, group, none, ◌then◌, Taken, skip, take_token}
use Rattle.forf_semantics.specs.Machine.{Machine, integer, substack, Frame, pending, running, with_exec, push, enter}
use Rattle.forf_semantics.specs.Operators.{perform}
use Rattle.forf_semantics.specs.declared.Error.{Error}
use Rattle.forf_semantics.specs.declared.Error.TheVariants.{ExecStackOverflow, StackOverflow}

-- What is lent, in slots.
pub record Limits : Type 0 where
  pub stack_slots : ℕ
  pub exec_slots : ℕ

pub record State : Type 0 where
  pub machine : Machine
  pub next : ℕ  -- the offset of the script bytes that are left
  pub at : ℕ  -- the offset of the token last taken
  pub steps : ℕ

-- What a step does to the machine; and the word that it executes, as text, else nothing.
pub record Move : Type 0 where
  pub command : List ℕ
  pub result : Result Machine

-- ---- an item is taken

unfoldable pub command_of : Item → List ℕ
command_of (number w) = []
command_of (word n) = name_text true n
command_of (group xs) = []

-- Integers and substacks are pushed; a word acts in the step that takes it.
unfoldable pub act : Item → Machine → Result Machine
act (number w) m = ok (push (integer w) m)
act (word n) m = perform n m
act (group xs) m = ok (push (substack xs) m)

unfoldable pub treat : Item → Machine → Move
treat x m = record { command = command_of x; result = act x m }

-- A step in which no word is executed.
unfoldable pub silent : Result Machine → Move
silent r = record { command = []; result = r }

-- ---- the top of the execution stack

-- The frame acts; it has been dropped from the machine. A pending substack becomes a running one; a running one takes its next item, or
-- with none left stays dropped.
unfoldable pub resume : Frame → Machine → Move
resume (pending xs) m = silent (ok (enter (running xs) m))
resume (running none) m = silent (ok m)
resume (running (x then xs)) m = treat x (enter (running xs) m)

-- ---- room

-- The last errors in the order, by what the machine after the step would need.
unfoldable pub room_for : Limits → Machine → Result Machine
room_for l m = do
  _ ← check (leb (length m.exec) l.exec_slots) ExecStackOverflow
  _ ← check (leb (length m.stack) l.stack_slots) StackOverflow
  ok m

-- ---- a step

pub data Step : Type 0 where
  goes : State → Step
  fails : Error → List ℕ → State → Step  -- the error, the command, and the state that is left

-- The step's end: the state after it, or the state before it with the step counted and `at` set.
unfoldable pub ended : State → ℕ → ℕ → List ℕ → Result Machine → Step
ended σ at next command (ok m) = goes (record { machine = m; next = next; at = at; steps = suc σ.steps })
ended σ at next command (fault e) =
    fails e command (record { machine = σ.machine; next = σ.next; at = at; steps = suc σ.steps })

unfoldable pub moved : Limits → State → ℕ → ℕ → Move → Step
moved l σ at next v = ended σ at next v.command (v.result >>= room_for l)

-- What taking a token comes to.
unfoldable pub token_move : Result Taken → Machine → Move
token_move (fault e) m = silent (fault e)
token_move (ok t) m = treat t.item m

unfoldable pub offset_after : ℕ → Result Taken → ℕ
offset_after start (fault e) = start
offset_after start (ok t) = t.after

-- One step acts once on the top of the execution stack. With an empty one the next script token is taken.
unfoldable pub step_on : Limits → List ℕ → State → List Frame → Step
step_on l script σ (f ∷ fs) = moved l σ σ.at σ.next (resume f (with_exec fs σ.machine))
step_on l script σ [] =
    let start = skip script σ.next in
    let t = take_token script start in
    moved l σ start (offset_after start t) (token_move t σ.machine)

unfoldable pub step : Limits → List ℕ → State → Step
step l script σ = step_on l script σ σ.machine.exec

-- ---- a run

pub data Ending : Type 0 where
  finished out_of_fuel : Ending
  failed : Error → List ℕ → Ending  -- the error and the command

pub record Run : Type 0 where
  pub ending : Ending
  pub final : State

unfoldable pub is_empty : {A : Type 0} → List A → Bool
is_empty [] = true
is_empty (a ∷ l) = false

-- Only space and comments are left, and the execution stack is empty.
unfoldable pub is_finished : List ℕ → State → Bool
is_finished script σ = elim (is_empty σ.machine.exec) [ true ↦ eqb (skip script σ.next) (length script) | false ↦ false ]

unfoldable pub finish : List ℕ → State → Run
finish script σ = record { ending = finished; final = record { machine = σ.machine; next = σ.next; at = length script; steps = σ.steps } }

-- The run from a step on, given its rest.
unfoldable pub go_on : (State → Run) → Step → Run
go_on rest (goes τ) = rest τ
go_on rest (fails e c τ) = record { ending = failed e c; final = τ }

-- Whether the run is finished is asked before fuel is looked at. Each step costs 1 fuel.
unfoldable pub run : Limits → List ℕ → ℕ → State → Run
run l script zero σ =
    elim (is_finished script σ) [ true ↦ finish script σ | false ↦ record { ending = out_of_fuel; final = σ } ]
run l script (suc fuel) σ =
    elim (is_finished script σ) [ true ↦ finish script σ | false ↦ go_on (run l script fuel) (step l script σ) ]

-- Both stacks empty, and the memory as it is lent.
unfoldable pub initial : List ℕ → State
initial memory = record { machine = record { stack = []; exec = []; memory = memory }; next = 0; at = 0; steps = 0 }

-- Opens every definition of this file.
unfoldable pub stepping : Unit {0}
unfolding command_of act treat silent resume room_for ended moved token_move offset_after step_on step is_empty is_finished finish go_on run initial
stepping = tt
