-- What the runner promises of every script, fuel and room (demands 1, 2 and 3).
-- Assumes nothing.
use Rattle.std.specs.Prelude.{◌≡◌, Result, Ok, Err, List, ℕ, ◌+◌, ◌*◌, ◌/◌, ◌≤◌, ◌<◌, length, take, drop}
use Rattle.semantics.specs.Sizes.{script_most, fuel_most, cells_most, log_most, head_room, item_room, stack_words_most, exec_words_most, name_words, dictionary_words_most}
use Rattle.semantics.specs.Machine as Floo
use Rattle.semantics.specs.Steps as steps
use Rattle.semantics.specs.Steps.{Run, run, initial}
use Rattle.semantics.specs.Outcome.{outcome}
use Rattle.semantics.specs.AsciiLaws.{Ascii, Bytes}
use Rattle.semantics.specs.Setup.{Lent, limits, refusal}
use Rattle.ending.specs.Endings.{ending_of}
use Rattle.text.specs.Writing.{Written}
use Rattle.machine.specs.Places.{keys}
use Rattle.machine.specs.Rep.{Rep}
use Rattle.setup.specs.Lending.{number_of}
use Rattle.setup.specs.declared.Refusal.{Refusal}
use Rattle.step.specs.Stepping.{state_of}
use Rattle.step.specs.declared.State.{State}
use Rattle.run_loop.specs.History.{Moment, limits_of, History, Begun, EndsFrom}
use Rattle.runner.specs.declared.Proceeded.{Proceeded}
use Rattle.runner.specs.declared.Report.{Report}

-- What is lent, and the definition's run with it from a state on.
abbrev pub lent_of : List ℕ → List ℕ → List ℕ → List ℕ → List ℕ → List ℕ → Lent
lent_of s e d c l o =
    record { stack_words = length s; exec_words = length e; dictionary_words = length d; cell_words = length c; log_bytes = length l; outcome_bytes = length o }

abbrev pub the_run : List ℕ → ℕ → Lent → steps.State → Run
the_run script fuel given σ₀ = run (limits given) script fuel σ₀

-- The whole slots of so many words, and the words past them.
abbrev pub whole : ℕ → List ℕ → List ℕ
whole width words = take (length words / width * width) words

abbrev pub past : ℕ → List ℕ → List ℕ
past width words = drop (length words / width * width) words

-- The first moment is what was lent, past what the start itself uses: its execution slots, names and log bytes, and so many words of the stack and of the cells.
pub record Lends (touched worked : ℕ) (m : Floo.Machine) (first : Moment) (s e d c l : List ℕ) : Type 0 where
  pub stack : drop touched first.stack ≡ drop touched s
  pub exec : drop (8 * length m.exec) first.exec ≡ drop (8 * length m.exec) e
  pub dict : drop (12 * length m.dictionary) first.dict ≡ drop (12 * length m.dictionary) d
  pub cells : drop worked first.cells ≡ drop worked c
  pub log : drop (length m.log) first.log ≡ drop (length m.log) l
  pub lengths : (length first.stack ≡ length s) × (length first.exec ≡ length e) × (length first.dict ≡ length d) × (length first.cells ≡ length c) × (length first.log ≡ length l)

-- Demand 3: the history of the run begins with what was lent and ends with what the buffers hold. At the start of `run` nothing is used but the slots of the
-- predefined names.
pub record Recorded (script : List ℕ) (fuel : ℕ) (σ₀ : steps.State) (touched worked : ℕ) (s s' e e' d d' c c' l l' : List ℕ) : Type 0 where
  pub first : Moment
  pub last : Moment
  pub lends : Lends touched worked σ₀.machine first (whole 2 s) (whole 8 e) (whole 12 d) (whole 4 c) l
  pub holds : (last.stack ≡ whole 2 s') × (last.exec ≡ whole 8 e') × (last.dict ≡ whole 12 d') × (last.cells ≡ whole 4 c') × (last.log ≡ l')
  pub history : History script fuel σ₀ first last

-- A run from σ₀: the definition's steps, log and outcome, and its history. The log past its count, the outcome past its end and the words past whole slots are
-- unchanged.
pub record RunIs (script : List ℕ) (fuel : ℕ) (σ₀ : steps.State) (touched worked : ℕ) (s s' e e' d d' c c' l l' o o' : List ℕ) (r : Report) : Type 0 where
  pub steps : r.steps ≡ (the_run script fuel (lent_of s e d c l o) σ₀).final.steps
  pub fueled : r.steps ≤ σ₀.steps + fuel
  pub log : Written 0 (the_run script fuel (lent_of s e d c l o) σ₀).final.machine.log l l' r.log
  -- of a script of bytes the outcome's text is ASCII
  pub ascii : Bytes script → Ascii (outcome (the_run script fuel (lent_of s e d c l o) σ₀))
  pub outcome : Written 0 (outcome (the_run script fuel (lent_of s e d c l o) σ₀)) o o' r.outcome
  pub unused : (past 2 s' ≡ past 2 s) × (past 8 e' ≡ past 8 e) × (past 12 d' ≡ past 12 d) × (past 4 c' ≡ past 4 c)
  pub recorded : Recorded script fuel σ₀ touched worked s s' e e' d d' c c' l l'
  -- the history is of this run: its room is what is lent, and it has a moment more than there are steps
  pub room : limits_of recorded.first ≡ limits (lent_of s e d c l o)
  pub counted : length recorded.history.moments + σ₀.steps ≡ r.steps + 1
  -- its last moment has the small state that is reported
  pub state : (recorded.last.state.machine ≡ r.machine) × (recorded.last.state.steps ≡ r.steps)

abbrev pub Answer : Type 0
Answer = Result Report Refusal

-- The whole answer: a refusal, where no lent word or byte has changed, or the run.
abbrev pub AnswerIs : List ℕ → ℕ → List ℕ → List ℕ → List ℕ → List ℕ → List ℕ → List ℕ → List ℕ → List ℕ → List ℕ → List ℕ → List ℕ → List ℕ → Answer → Type 0
AnswerIs script fuel s s' e e' d d' c c' l l' o o' (Err r) =
    (refusal script fuel (lent_of s e d c l o) ≡ number_of r) × (0 < number_of r) × (s' ≡ s) × (e' ≡ e) × (d' ≡ d) × (c' ≡ c) × (l' ≡ l) × (o' ≡ o)
AnswerIs script fuel s s' e e' d d' c c' l l' o o' (Ok r) =
    (refusal script fuel (lent_of s e d c l o) ≡ 0) × RunIs script fuel initial 0 0 s s' e e' d d' c c' l l' o o' r

pub record Runs (script : List ℕ) (fuel : ℕ) (s s' e e' d d' c c' l l' o o' : List ℕ) (r : Answer) : Type 0 where
  pub answers : AnswerIs script fuel s s' e e' d d' c c' l l' o o' r

-- ---- where setup accepts

-- Whole slots, within the limits.
pub record Ready (script : List ℕ) (fuel : ℕ) (s e d c l o : List ℕ) : Type 0 where
  pub short : length script ≤ script_most
  pub fueled : fuel ≤ fuel_most
  pub stack : length s ≤ stack_words_most
  pub exec : length e ≤ exec_words_most
  pub dict : (name_words ≤ length d) × (length d ≤ dictionary_words_most)
  pub cells : length c / 4 ≤ cells_most
  pub log : length l ≤ log_most
  pub outcome : head_room + item_room * (length s / 2) ≤ length o

-- The run from σ₀ with the words of whole slots.
pub record CarriesOut (script : List ℕ) (fuel : ℕ) (σ₀ : steps.State) (touched worked : ℕ) (s s' e e' d d' c c' l l' o o' : List ℕ) (r : Report) : Type 0 where
  pub steps : r.steps ≡ (the_run script fuel (lent_of s e d c l o) σ₀).final.steps
  pub log : Written 0 (the_run script fuel (lent_of s e d c l o) σ₀).final.machine.log l l' r.log
  pub ascii : Bytes script → Ascii (outcome (the_run script fuel (lent_of s e d c l o) σ₀))
  pub outcome : Written 0 (outcome (the_run script fuel (lent_of s e d c l o) σ₀)) o o' r.outcome
  pub first : Moment
  pub last : Moment
  pub lends : Lends touched worked σ₀.machine first s e d c l
  pub holds : (last.stack ≡ s') × (last.exec ≡ e') × (last.dict ≡ d') × (last.cells ≡ c') × (last.log ≡ l')
  pub history : History script fuel σ₀ first last
  pub room : limits_of first ≡ limits (lent_of s e d c l o)
  pub state : (last.state.machine ≡ r.machine) × (last.state.steps ≡ r.steps)

-- The words stand for the machine at the end of the run from σ₀, which ended so.
pub record Reaches (script : List ℕ) (fuel : ℕ) (σ₀ : steps.State) (s s' e e' d d' c c' l l' o : List ℕ) (r : Proceeded) : Type 0 where
  pub machine : Floo.Machine
  pub rep : Rep r.state.machine s' e' d' c' l' machine
  pub runs : the_run script fuel (lent_of s e d c l o) σ₀ ≡ record { ending = ending_of script (keys machine) r.ending; final = state_of r.state machine }

-- ---- from any state

-- The words of whole slots stand for a machine, and there is room for the outcome.
pub record MayProceed (script : List ℕ) (fuel : ℕ) (st : State) (s e d c l o : List ℕ) : Type 0 where
  pub begun : Begun script fuel st s e d c l
  pub log : length l ≤ log_most
  pub outcome : head_room + item_room * (length s / 2) ≤ length o

-- The run from the machine μ, and what is reported of it.
pub record ProceedsFrom (script : List ℕ) (fuel : ℕ) (st : State) (μ : Floo.Machine) (s s' e e' d d' c c' l l' o o' : List ℕ) (r : Proceeded) : Type 0 where
  pub ended : EndsFrom script fuel st μ s s' e e' d d' c c' l l' r.state r.ending
  pub log : Written 0 (the_run script fuel (lent_of s e d c l o) (state_of st μ)).final.machine.log l l' r.report.log
  pub ascii : Bytes script → Ascii (outcome (the_run script fuel (lent_of s e d c l o) (state_of st μ)))
  pub outcome : Written 0 (outcome (the_run script fuel (lent_of s e d c l o) (state_of st μ))) o o' r.report.outcome
  pub reported : (r.report.machine ≡ r.state.machine) × (r.report.steps ≡ r.state.steps)

pub record Proceeds (script : List ℕ) (fuel : ℕ) (st : State) (s s' e e' d d' c c' l l' o o' : List ℕ) (r : Proceeded) : Type 0 where
  pub proceeds : (μ : Floo.Machine) → Rep st.machine s e d c l μ → ProceedsFrom script fuel st μ s s' e e' d d' c c' l l' o o' r
