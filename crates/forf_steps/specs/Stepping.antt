-- What a step of the code does, by the definition's step.
-- Assumes nothing.
use Rattle.std.specs.Prelude.{◌≡◌, Bool, true, false, cond, List, [], ℕ, ◌+◌, ◌-◌, ◌*◌, ◌≤◌, ◌<◌, length, get_or, take, drop, eqb}
use Rattle.semantics.specs.Sizes.{name_most, script_most, fuel_most, exec_width}
use Rattle.semantics.specs.Values.{◌>>=◌}
use Rattle.semantics.specs.Printing.{name_text}
use Rattle.forf_semantics.specs.Items.{skip}
use Rattle.forf_semantics.specs.Steps.{act, room_for, step, goes, fails}
use Rattle.forf_semantics.specs.Steps as Forf
use Rattle.forf_semantics.specs.declared.Error.TheVariants.{SyntaxError}
use Rattle.forf_groups.specs.Reading.{item_of, Held}
use Rattle.forf_groups.specs.declared.Item.{Item}
use Rattle.forf_groups.specs.declared.Item.TheVariants as item
use Rattle.forf_machine.specs.Slots.{put_slot}
use Rattle.forf_machine.specs.Rep.{machine_of, Rep, limits_of}
use Rattle.forf_machine.specs.Does.{Acted, Answer, Lent}
use Rattle.forf_machine.specs.declared.Machine.{Machine}
use Rattle.forf_steps.specs.declared.State.{State}
use Rattle.forf_steps.specs.declared.Failure.{Failure}
use Rattle.std.specs.Prelude.{Option, Some, None, Ok, Err}
use Rattle.std.specs.Prelude as std

-- The word whose execution failed, and a step's answer.
abbrev pub Command : Type 0
Command = Option (ℕ × ℕ)

abbrev pub Stepped : Type 0
Stepped = std.Result State Failure

-- ---- an item acts

pub record Acting (script : List ℕ) (i : Item) (m : Machine) (s e mem : List ℕ) : Type 0 where
  pub held : Held script i
  pub lent : Lent m s e mem
  pub short : length script ≤ script_most

pub record Acts (script : List ℕ) (i : Item) (m : Machine) (s s' e e' mem mem' : List ℕ) (r : Acted) : Type 0 where
  pub acts : Rep script m s e mem → Answer script s s' e' mem mem' r (act (item_of script i) (machine_of script m s e mem) >>= room_for (limits_of s e))

-- ---- the state

-- The definition's state.
unfoldable pub state_of : List ℕ → State → List ℕ → List ℕ → List ℕ → Forf.State
state_of script st s e mem = record { machine = machine_of script st.machine s e mem; next = st.next; at = st.at; steps = st.steps }

-- The execution stack has `frames` slots: the script's token is taken where there is none.
unfoldable pub is_pending : ℕ → List ℕ → Bool
is_pending frames e = cond (eqb frames 0) false (eqb (get_or e (exec_width * (frames - 1)) 0) 0)

unfoldable pub place_of : ℕ → ℕ → List ℕ → ℕ
place_of frames next e = cond (eqb frames 0) next (get_or e (exec_width * (frames - 1) + 1) 0)

unfoldable pub moved_on : ℕ → ℕ → List ℕ → List ℕ
moved_on frames next e = cond (eqb frames 0) e (put_slot exec_width (frames - 1) 1 next e)

unfoldable pub is_done : List ℕ → ℕ → ℕ → Bool
is_done script frames next = cond (eqb frames 0) (eqb (skip script next) (length script)) false

unfoldable pub state_after : State → Machine → ℕ → ℕ → State
state_after st m start next =
    cond (eqb st.machine.frames 0)
    (record { machine = m; next = next; at = start; steps = st.steps + 1 })
    (record { machine = m; next = st.next; at = st.at; steps = st.steps + 1 })

unfoldable pub state_failed : State → ℕ → State
state_failed st start = state_after st st.machine start st.next

unfoldable pub without_item : State → ℕ → Stepped
without_item st start =
    cond (eqb st.machine.frames 0)
    (Err (record { error = SyntaxError; command = None; state = state_failed st start }))
    (Ok (state_after st (record { depth = st.machine.depth; frames = st.machine.frames - 1 }) start start))

abbrev pub command_of : Item → Command
command_of (item.Number w) = None
command_of (item.Word start size) = Some (start, size)
command_of (item.Substack body) = None

-- ---- a step

-- A command's text, and that its bytes are in the script, and few.
abbrev pub command_text : List ℕ → Command → List ℕ
command_text script None = []
command_text script (Some w) = name_text true (take w.1 (drop w.0 script))

abbrev pub HeldCommand : List ℕ → Command → Type 0
HeldCommand script None = Unit {0}
HeldCommand script (Some w) = (w.0 + w.1 ≤ length script) × (w.1 ≤ name_most)

-- The words stand for a machine, and the offsets are in the script.
pub record Ready (script : List ℕ) (st : State) (s e mem : List ℕ) : Type 0 where
  pub rep : Rep script st.machine s e mem
  pub inside : st.next ≤ length script
  pub within : st.at ≤ length script
  pub short : length script ≤ script_most
  pub few : st.steps < fuel_most

-- The words are ready for the next step but for its fuel.
pub record Stands (script : List ℕ) (st : State) (s e mem : List ℕ) : Type 0 where
  pub rep : Rep script st.machine s e mem
  pub inside : st.next ≤ length script
  pub within : st.at ≤ length script

-- What is answered, where the definition's step is q. The execution stack after a failing step is not told: the run has ended.
abbrev pub StepIs : List ℕ → State → List ℕ → List ℕ → List ℕ → List ℕ → List ℕ → List ℕ → Stepped → Forf.Step → Type 0
StepIs script st s s' e e' mem mem' (Ok τ) q = (q ≡ goes (state_of script τ s' e' mem')) × Stands script τ s' e' mem' × (τ.steps ≡ st.steps + 1)
StepIs script st s s' e e' mem mem' (Err f) q =
    (q ≡ fails f.error (command_text script f.command) (state_of script f.state s e mem)) × (s' ≡ s) × (mem' ≡ mem) × Stands script f.state s e mem × HeldCommand script f.command
    × (f.state.steps ≡ st.steps + 1)

pub record Steps (script : List ℕ) (st : State) (s s' e e' mem mem' : List ℕ) (r : Stepped) : Type 0 where
  pub steps : StepIs script st s s' e e' mem mem' r (step (limits_of s e) script (state_of script st s e mem))
