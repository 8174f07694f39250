-- Steps and runs (01, Steps, Order within a step, Room).
-- Assumes nothing.
use Rattle.std.specs.Prelude.{Bool, true, false, List, [], ◌∷◌, ◌++◌, map, ℕ, zero, suc, ◌-◌, ℤ, ◌+ℤ◌, length, drop, leb, eqb}
use Rattle.std.proofs.Math.Option.{Option, none, some}
use Rattle.std.specs.Int.Signed.{lt_z, non_neg}
use Rattle.std.proofs.Math.ListN.{get_elem?}
use Rattle.semantics.specs.Text.{bytes}
use Rattle.semantics.specs.Words.{signed, word}
use Rattle.semantics.specs.Values.{Result, ok, fault, ◌>>=◌, check, given, Value, integer, boolean, null, mark, operator, name, string, array, text, cells}
use Rattle.semantics.specs.Machine.{Machine, Frame, pending, running, looping, repeating, counting, Slot, with_dictionary, with_exec, with_latest, push, enter, object, elements_of, make, made, lookup, assign, slotted}
use Rattle.semantics.specs.Errors.{error_text, error_names}
use Rattle.semantics.specs.Operators.{perform, table, Entry}
use Rattle.semantics.specs.Held.{held_cells, sum_of}
use Rattle.semantics.specs.Tokens.{Lexing}
use Rattle.semantics.specs.Groups.{Taken, skip, take_token}
use Rattle.semantics.specs.declared.Error.{Error}
use Rattle.semantics.specs.declared.Fault.{Fault}
use Rattle.semantics.specs.declared.Error.TheVariants.{LimitCheck, Undefined, ExecStackOverflow, StackOverflow, VmError, IoError}

-- What is lent, in slots, cells and bytes.
pub record Limits : Type 0 where
  pub stack_slots : ℕ
  pub exec_slots : ℕ
  pub dictionary_slots : ℕ
  pub cell_count : ℕ
  pub log_bytes : ℕ

pub record State : Type 0 where
  pub machine : Machine
  pub next : ℕ  -- the offset of the script bytes that are left
  pub at : ℕ  -- the offset of the token last taken
  pub steps : ℕ

-- What a step does to the machine; and the name of the operator or executable name that it executes, else nothing.
pub record Move : Type 0 where
  pub command : List ℕ
  pub result : Result Machine

-- ---- executing

-- Pushed literals have none (R50, R51); an operator's is its own name, whatever name led to it (R53).
unfoldable pub command_of : Value → List ℕ
command_of (integer w) = []
command_of (boolean b) = []
command_of null = []
command_of mark = []
command_of (operator o) = o
command_of (name true n) = n
command_of (name false n) = []
command_of (string i) = []
command_of (array x i) = []

-- Executing a name makes its binding pending, in the step that meets the name (R40); a pending procedure becomes a running one; literals are pushed.
unfoldable pub execute : Value → Machine → Result Machine
execute (integer w) m = ok (push (integer w) m)
execute (boolean b) m = ok (push (boolean b) m)
execute null m = ok (push null m)
execute mark m = ok (push mark m)
execute (operator o) m = perform o m
execute (name true n) m = do
  v ← given (lookup n m.dictionary) Undefined
  ok (enter (pending v) m)
execute (name false n) m = ok (push (name false n) m)
execute (string i) m = ok (push (string i) m)
execute (array true i) m = ok (enter (running i 0) m)
execute (array false i) m = ok (push (array false i) m)

unfoldable pub is_procedure : Value → Bool
is_procedure (integer w) = false
is_procedure (boolean b) = false
is_procedure null = false
is_procedure mark = false
is_procedure (operator o) = false
is_procedure (name x n) = false
is_procedure (string i) = false
is_procedure (array x i) = x

-- Taken from a procedure or the script: executable names and operators are executed; all else, procedures too, is pushed (R48).
unfoldable pub treat : Value → Machine → Result Machine
treat v m = elim (is_procedure v) [ true ↦ ok (push v m) | false ↦ execute v m ]

-- ---- the top of the execution stack

-- A step in which no operator or name is executed, a loop's among them (R52).
unfoldable pub silent : Result Machine → Move
silent r = record { command = []; result = r }

-- `for` ends above the final for an increment of zero or more, below it for a negative one.
unfoldable pub beyond : ℤ → ℤ → ℤ → Bool
beyond next increment final = elim (non_neg increment) [ true ↦ lt_z final next | false ↦ lt_z next final ]

-- The next number of `for` is the ordinary sum, outside 32 bits if need be (02, W6).
unfoldable pub following : ℤ → ℕ → ℤ
following next increment = next +ℤ signed increment

-- The frame acts; it has been dropped from the machine, so that a pending object never needs a second slot (R39). A finished procedure or loop takes a step of
-- its own (R38, R41); elements are read when met (R49).
unfoldable pub resume : Frame → Machine → Move
resume (pending v) m = record { command = command_of v; result = execute v m }
resume (running i k) m =
    elim (get_elem? (elements_of (object m i)) k) [
      | none ↦ silent (ok m)
      | some v ↦ record { command = command_of v; result = treat v (enter (running i (suc k)) m) }
    ]
resume (looping b) m = silent (ok (enter (pending b) (enter (looping b) m)))
resume (repeating zero b) m = silent (ok m)
resume (repeating (suc n) b) m = silent (ok (enter (pending b) (enter (repeating n b) m)))
resume (counting n i f b) m =
    elim (beyond n (signed i) (signed f)) [
      | true ↦ silent (ok m)
      | false ↦ silent (ok (enter (pending b) (enter (counting (following n i) i f b) (push (integer (word n)) m))))
    ]

-- What is left of the execution stack when the object or repetition that the frame took has failed and counts as taken (02, W1).
unfoldable pub passed : Frame → List Frame → List Frame
passed (pending v) fs = fs
passed (running i k) fs = running i (suc k) ∷ fs
passed (looping b) fs = looping b ∷ fs
passed (repeating n b) fs = repeating (n - 1) b ∷ fs
passed (counting n i f b) fs = counting (following n i) i f b ∷ fs

-- ---- room

-- The cells of the objects that the step makes, inner groups and strings too (R92); an empty one takes a cell (R93).
unfoldable pub new_cells : Machine → Machine → ℕ
new_cells before after = sum_of cells (drop (length before.store) after.store)

-- VMerror goes by the cells that are lent, less those of the objects held before the step. The clause for zero is there for computing only, so that held is
-- not asked where nothing is made: the test of the other clause always passes there (R91).
unfoldable pub cells_for : Limits → Machine → ℕ → Result (Unit {0})
cells_for l before zero = ok tt
cells_for l before (suc n) = check (leb (suc n) (l.cell_count - held_cells before)) VmError

-- The last errors in the order, by what the machine after the step would need (R65, R100): slots, also those of a whole group (R33, R97), the execution stack
-- (R99), the stack (R98), cells, and the log's whole text (R87).
unfoldable pub room_for : Limits → Machine → Machine → Result Machine
room_for l before after = do
  _ ← check (leb (length after.dictionary) l.dictionary_slots) LimitCheck
  _ ← check (leb (length after.exec) l.exec_slots) ExecStackOverflow
  _ ← check (leb (length after.stack) l.stack_slots) StackOverflow
  _ ← cells_for l before (new_cells before after)
  _ ← check (leb (length after.log) l.log_bytes) IoError
  ok after

-- ---- a step

pub data Step : Type 0 where
  goes : State → Step
  fails : Error → List ℕ → State → Step  -- the error, the command, and the state that is left
  misreads : Fault → State → Step  -- what is wrong with the token, and the state that is left

-- What a step that ends the run leaves: the state before it with the step counted and `at` set (R47), for a brace group to its opening brace (R32).
unfoldable pub unmoved : State → ℕ → State
unmoved σ at = record { machine = σ.machine; next = σ.next; at = at; steps = suc σ.steps }

-- A name to be stored, and the dictionary then: an unknown one takes its slot, and is none if no slot is free (W1.10).
unfoldable pub noted : ℕ → List ℕ → List Slot → Option (List ℕ) × List Slot
noted slots [] d = (none, d)
noted slots (b ∷ n) d =
    elim (leb (length (slotted (b ∷ n) d)) slots) [ true ↦ (some (b ∷ n), slotted (b ∷ n) d) | false ↦ (none, d) ]

-- An error of a command is handled by h: both names are stored, and the handler becomes pending on what is left of the execution stack (02, W1).
unfoldable pub handling : Limits → Value → Error → List ℕ → List Frame → Machine → Machine
handling l h e command left m =
    let x = noted l.dictionary_slots (error_text e) m.dictionary in
    let y = noted l.dictionary_slots command x.1 in
    with_latest (record { errorname = x.0; command = y.0 }) (with_dictionary y.1 (with_exec (pending h ∷ left) m))

-- A step fails: the error's handler takes over, if there is one and an execution slot is free for it (W1.7).
unfoldable pub failing : Limits → State → ℕ → ℕ → List Frame → Error → List ℕ → Option Value → Step
failing l σ at next left e command none = fails e command (unmoved σ at)
failing l σ at next left e command (some h) =
    elim (leb (suc (length left)) l.exec_slots) [
      | true ↦ goes (record { machine = handling l h e command left σ.machine; next = next; at = at; steps = suc σ.steps })
      | false ↦ fails e command (unmoved σ at)
    ]

-- The step's end. Where it fails and what failed counts as taken, `left` is left of the execution stack, and the bytes from `next` on.
unfoldable pub ended : Limits → State → ℕ → ℕ → List Frame → List ℕ → Result Machine → Step
ended l σ at next left command (ok m) = goes (record { machine = m; next = next; at = at; steps = suc σ.steps })
ended l σ at next left command (fault e) = failing l σ at next left e command (lookup (error_text e) σ.machine.handlers)

unfoldable pub moved : Limits → State → ℕ → ℕ → List Frame → Move → Step
moved l σ at next left v = ended l σ at next left v.command (v.result >>= room_for l σ.machine)

-- What a token that is taken comes to.
unfoldable pub token_move : Taken → Move
token_move t = record { command = command_of t.value; result = treat t.value t.machine }

-- A fault of the token ends the run, whatever handlers there are.
unfoldable pub token_step : Limits → State → ℕ → Lexing Taken → Step
token_step l σ start (fault f) = misreads f (unmoved σ start)
token_step l σ start (ok t) = moved l σ start t.after [] (token_move t)

-- One step acts once on the top of the execution stack. With an empty one the next script token is taken.
unfoldable pub step_on : Limits → List ℕ → State → List Frame → Step
step_on l script σ (f ∷ fs) = moved l σ σ.at σ.next (passed f fs) (resume f (with_exec fs σ.machine))
step_on l script σ [] =
    let start = skip script σ.next in
    token_step l σ start (take_token script start σ.machine)

unfoldable pub step : Limits → List ℕ → State → Step
step l script σ = step_on l script σ σ.machine.exec

-- ---- a run

pub data Ending : Type 0 where
  finished stopped out_of_fuel : Ending
  failed : Error → List ℕ → Ending  -- the error and the command
  misread : Fault → Ending  -- what is wrong with a token

pub record Run : Type 0 where
  pub ending : Ending
  pub final : State

unfoldable pub is_empty : {A : Type 0} → List A → Bool
is_empty [] = true
is_empty (a ∷ l) = false

-- Only space and comment are left, and the execution stack is empty (R46).
unfoldable pub is_finished : List ℕ → State → Bool
is_finished script σ = elim (is_empty σ.machine.exec) [ true ↦ eqb (skip script σ.next) (length script) | false ↦ false ]

unfoldable pub finish : List ℕ → State → Run
finish script σ = record { ending = finished; final = record { machine = σ.machine; next = σ.next; at = length script; steps = σ.steps } }

-- The run from a step on, given its rest.
unfoldable pub go_on : (State → Run) → Step → Run
go_on rest (fails e c τ) = record { ending = failed e c; final = τ }
go_on rest (misreads f τ) = record { ending = misread f; final = τ }
go_on rest (goes τ) = elim τ.machine.stopped [ true ↦ record { ending = stopped; final = τ } | false ↦ rest τ ]

-- Whether the run is finished is asked before fuel is looked at. Each step costs 1 fuel.
unfoldable pub run : Limits → List ℕ → ℕ → State → Run
run l script zero σ =
    elim (is_finished script σ) [ true ↦ finish script σ | false ↦ record { ending = out_of_fuel; final = σ } ]
run l script (suc fuel) σ =
    elim (is_finished script σ) [ true ↦ finish script σ | false ↦ go_on (run l script fuel) (step l script σ) ]

-- ---- the start

unfoldable pub slot : List ℕ → Value → Slot
slot n v = record { key = n; binding = some v }

-- The operators by their names, and [, true, false and null. `[` and mark are two names of one operator (R2); all may be rebound (R4).
unfoldable pub predefined : List Slot
predefined =
    map (λ (e : Entry). slot e.title (operator e.title)) table
    ++ (slot (bytes "[") (operator (bytes "mark"))
    ∷ slot (bytes "true") (boolean true)
    ∷ slot (bytes "false") (boolean false)
    ∷ slot (bytes "null") null
    ∷ [])

-- The state before step 1 of a run of this machine.
abbrev pub start_of : Machine → State
start_of m = record { machine = m; next = 0; at = 0; steps = 0 }

-- No error has a handler.
unfoldable pub unhandled : List Slot
unhandled = map (λ n. record { key = n; binding = none }) error_names

-- Both stacks empty, the predefined names, no object, no mark, no handler and no error.
unfoldable pub initial : State
initial = start_of (record { stack = []; dictionary = predefined; exec = []; store = []; read_only = []; handlers = unhandled; latest = record { errorname = none; command = none }; log = []; stopped = false })

-- A string is made and bound to a name before step 1 (02, W3).
unfoldable pub lending : List ℕ → List ℕ → Machine → Machine
lending n contents m =
    let τ = make (text contents) m in
    with_dictionary (assign n (string (made m)) τ.dictionary) τ

-- Opens every definition of this file.
unfoldable pub stepping : Unit {0}
unfolding command_of execute is_procedure treat silent beyond following resume passed new_cells cells_for room_for unmoved noted handling failing ended moved token_move token_step step_on step is_empty is_finished finish go_on run slot predefined unhandled initial lending
stepping = tt
