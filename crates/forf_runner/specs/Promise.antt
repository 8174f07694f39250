-- What `run` promises: a refusal by its number or name that changes no lent word or byte, or the definition's run, with its outcome and the memory that it leaves.
-- Assumes nothing.
use Rattle.std.specs.Prelude.{◌≡◌, not, cond, List, ℕ, ◌+◌, ◌*◌, ◌/◌, ◌≤◌, ◌<◌, length, drop, ltb}
use Rattle.semantics.specs.Sizes.{script_most, fuel_most, stack_width, exec_width, stack_least, stack_most, exec_least, exec_most, head_room, item_room}
use Rattle.semantics.specs.Tokens.{within}
use Rattle.text.specs.Writing.{Written}
use Rattle.forf_semantics.specs.Steps.{Run, run, initial}
use Rattle.forf_semantics.specs.Outcome.{outcome}
use Rattle.forf_semantics.specs.Setup.{Lent, Verdict, limits, verdict, refused, memory_slots, runs}
use Rattle.forf_machine.specs.Rep.{limits_of}
use Rattle.std.specs.Prelude.{Option, Some, None, Ok, Err}
use Rattle.std.specs.Prelude as std
use Rattle.forf_runner.specs.declared.Refusal.{Refusal}
use Rattle.forf_runner.specs.declared.Refusal.TheVariants as refusal
use Rattle.forf_runner.specs.declared.Report.{Report}

-- What a run comes to, or why it is not made.
abbrev pub Answer : Type 0
Answer = std.Result Report Refusal

-- Setup's number of a refusal; a memory's has none.
abbrev pub number_of : Refusal → Option ℕ
number_of refusal.Script = Some 1
number_of refusal.Fuel = Some 3
number_of refusal.Stack = Some 4
number_of refusal.Execution = Some 5
number_of refusal.Outcome = Some 9
number_of refusal.Memory = None

-- The definition's verdict for a refusal, by its number.
abbrev pub verdict_of : Option ℕ → Verdict
verdict_of (Some n) = refused n
verdict_of None = memory_slots

-- What is lent.
unfoldable pub lent_of : List ℕ → List ℕ → List ℕ → Lent
lent_of s e out = record { stack_words = length s; exec_words = length e; outcome_bytes = length out }

-- Setup's number by the lengths, or 0.
unfoldable pub refusal_of : ℕ → ℕ → ℕ → ℕ → ℕ → ℕ
refusal_of script fuel stack exec out =
    cond (ltb script_most script) 1
    (cond (ltb fuel_most fuel) 3
    (cond (not (within stack_least stack_most (stack / stack_width))) 4
    (cond (not (within exec_least exec_most (exec / exec_width))) 5
    (cond (ltb out (head_room + item_room * (stack / stack_width))) 9 0))))

-- What is refused has that number, and nothing is where it is 0.
abbrev pub Refuses : ℕ → std.Result (Unit {0}) Refusal → Type 0
Refuses n (Ok u) = n ≡ 0
Refuses n (Err r) = (0 < n) × (number_of r ≡ Some n)

-- The definition's run with what is lent.
unfoldable pub the_run : List ℕ → ℕ → List ℕ → List ℕ → List ℕ → List ℕ → Run
the_run script fuel s e mem out = run (limits (lent_of s e out)) script fuel (initial mem)

-- No lent word or byte has changed.
pub record Untouched (s s' e e' mem mem' out out' : List ℕ) : Type 0 where
  pub stack : s' ≡ s
  pub exec : e' ≡ e
  pub memory : mem' ≡ mem
  pub outcome : out' ≡ out

-- The run that was made: its steps, its outcome at the front of the lent bytes, its memory, and the words past whole slots as they were. The arrangement inside
-- the two stacks is the program's.
pub record RunIs (script : List ℕ) (fuel : ℕ) (s s' e e' mem mem' out out' : List ℕ) (r : Report) : Type 0 where
  pub steps : r.steps ≡ (the_run script fuel s e mem out).final.steps
  pub fueled : r.steps ≤ fuel
  pub memory : mem' ≡ (the_run script fuel s e mem out).final.machine.memory
  pub outcome : Written 0 (outcome (the_run script fuel s e mem out)) out out' r.outcome
  pub stack_rest : drop (length s / stack_width * stack_width) s' ≡ drop (length s / stack_width * stack_width) s
  pub exec_rest : drop (length e / exec_width * exec_width) e' ≡ drop (length e / exec_width * exec_width) e

abbrev pub AnswerIs : List ℕ → ℕ → List ℕ → List ℕ → List ℕ → List ℕ → List ℕ → List ℕ → List ℕ → List ℕ → Answer → Type 0
AnswerIs script fuel s s' e e' mem mem' out out' (Err r) = (verdict script fuel (lent_of s e out) mem ≡ verdict_of (number_of r)) × Untouched s s' e e' mem mem' out out'
AnswerIs script fuel s s' e e' mem mem' out out' (Ok r) = (verdict script fuel (lent_of s e out) mem ≡ runs) × RunIs script fuel s s' e e' mem mem' out out' r

-- The whole answer.
pub record Runs (script : List ℕ) (fuel : ℕ) (s s' e e' mem mem' out out' : List ℕ) (a : Answer) : Type 0 where
  pub answers : AnswerIs script fuel s s' e e' mem mem' out out' a

-- ---- with whole slots

-- What setup has accepted.
pub record Ready (script : List ℕ) (fuel : ℕ) (s e mem out : List ℕ) : Type 0 where
  pub short : length script ≤ script_most
  pub fueled : fuel ≤ fuel_most
  pub stack : length s / stack_width ≤ stack_most
  pub memory_slots_lem : length mem ≡ 32
  pub room : head_room + item_room * (length s / stack_width) ≤ length out

pub record CarriesOut (script : List ℕ) (fuel : ℕ) (s e mem mem' out out' : List ℕ) (r : Report) : Type 0 where
  pub steps : r.steps ≡ (run (limits_of s e) script fuel (initial mem)).final.steps
  pub fueled : r.steps ≤ fuel
  pub memory : mem' ≡ (run (limits_of s e) script fuel (initial mem)).final.machine.memory
  pub outcome : Written 0 (outcome (run (limits_of s e) script fuel (initial mem))) out out' r.outcome
