-- What a scan promises, on every input (02, W3).
-- Assumes nothing.
use Rattle.std.specs.Prelude.{◌≡◌, Bool, true, false, cond, Some, None, Result, Ok, Err, List, ℕ, length}
use Rattle.std.specs.Prelude as std
use Rattle.std.proofs.Math.Option.{Option, none, some}
use Rattle.semantics.specs.Machine as Floo
use Rattle.semantics.specs.Steps.{Run}
use Rattle.ending.specs.declared.Ending.{Ending}
use Rattle.ending.specs.declared.Ending.TheVariants.{Finished, Stopped, OutOfFuel, Failed, Misread}
use Rattle.machine.specs.Rep.{Rep}
use Rattle.machine.specs.declared.Machine.{Machine}
use Rattle.runner.specs.Promise.{lent_of, whole, RunIs, CarriesOut}
use Rattle.runner.specs.declared.Report.{Report}
use Rattle.book.specs.Books.{Entry, record_of, is_sound}
use Rattle.book.specs.declared.Record.{Record}
use Rattle.book.specs.declared.Entered.{Entered}
use Rattle.floor.specs.Floor.{Asked, before, labelled, run_of, entry_from, is_final, answer_for, scan_of}
use Rattle.floor.specs.declared.Answer.{Answer}
use Rattle.floor.specs.declared.Answer.TheVariants.{NotFinished, BadStack}
use Rattle.floor.specs.declared.Ran.{Ran}
use Rattle.floor.specs.declared.Scanned.{Scanned}

-- All that a scan is given but the book.
abbrev pub asked : List ℕ → ℕ → List ℕ → List ℕ → List ℕ → List ℕ → List ℕ → List ℕ → List ℕ → Asked
asked script fuel label s e d c l o = record { script = script; fuel = fuel; label = label; lent = lent_of s e d c l o }

-- No run: no steps, and nothing written.
pub record Nothing (r : Report) : Type 0 where
  pub steps : r.steps ≡ 0
  pub log : r.log ≡ 0
  pub outcome : r.outcome ≡ 0

-- The run from the start with the label made and bound, its history with it (demand 3), or no lent word or byte is changed. The label is made in the first slot of
-- the stack, which is free again, and takes cells: these words alone, and the slots of the names, may differ from what was lent when the run begins.
abbrev pub RunOrNone : Asked → List ℕ → List ℕ → List ℕ → List ℕ → List ℕ → List ℕ → List ℕ → List ℕ → List ℕ → List ℕ → List ℕ → List ℕ → Report → Option Answer → Type 0
RunOrNone a s s' e e' d d' c c' l l' o o' r (some x) = Nothing r × (s' ≡ s) × (e' ≡ e) × (d' ≡ d) × (c' ≡ c) × (l' ≡ l) × (o' ≡ o)
RunOrNone a s s' e e' d d' c c' l l' o o' r none = RunIs a.script a.fuel (labelled a.label) 2 (length (whole 4 c)) s s' e e' d d' c c' l l' o o' r

-- The answer, the book and its count are the definition's.
pub record Scans (a : Asked) (b b' : List Record) (n : ℕ) (s s' e e' d d' c c' l l' o o' : List ℕ) (r : Scanned) : Type 0 where
  pub answer : r.answer ≡ (scan_of a b n).answer
  pub book : b' ≡ (scan_of a b n).book
  pub count : r.count ≡ (scan_of a b n).count
  pub run : RunOrNone a s s' e e' d d' c c' l l' o o' r.report (before a (is_sound b n))

-- ---- the parts

-- The refusals before the run.
abbrev pub before_of : Result (Unit {0}) Answer → Option Answer
before_of (Ok _) = none
before_of (Err x) = some x

-- Whether a run is finished, by its ending in numbers.
abbrev pub is_finished : Ending → Bool
is_finished Finished = true
is_finished Stopped = false
is_finished OutOfFuel = false
is_finished (Failed e command) = false
is_finished (Misread f) = false

-- What the stack's items say.
abbrev pub read_of : Option Entry → std.Option Record
read_of none = None
read_of (some x) = Some (record_of x)

pub record ReadsEntry (m : Machine) (s c : List ℕ) (r : std.Option Record) : Type 0 where
  pub says : (e d l : List ℕ) (μ : Floo.Machine) → Rep m s e d c l μ → r ≡ read_of (entry_from μ μ.stack)

-- What a run left for the book.
abbrev pub Left : Run → Ran → Type 0
Left run r =
    (r.answer ≡ cond (is_final run.ending) BadStack NotFinished)
    × (r.entry ≡ cond (is_final run.ending) (read_of (entry_from run.final.machine run.final.machine.stack)) None)

-- With whole slots.
pub record CarriesLabel (script : List ℕ) (fuel : ℕ) (label s s' e e' d d' c c' l l' o o' : List ℕ) (r : Ran) : Type 0 where
  pub run : CarriesOut script fuel (labelled label) 2 (length c) s s' e e' d d' c c' l l' o o' r.report
  pub left : Left (run_of (asked script fuel label s e d c l o)) r

abbrev pub LeftOrNone : Asked → Ran → Option Answer → Type 0
LeftOrNone a r (some x) = (r.answer ≡ x) × (r.entry ≡ None)
LeftOrNone a r none = Left (run_of a) r

pub record Labelled (a : Asked) (sound : Bool) (s s' e e' d d' c c' l l' o o' : List ℕ) (r : Ran) : Type 0 where
  pub left : LeftOrNone a r (before a sound)
  pub run : RunOrNone a s s' e e' d d' c c' l l' o o' r.report (before a sound)

-- The answer, given what became of the entry.
abbrev pub scanned_of : Ran → std.Option Entered → ℕ → Scanned
scanned_of r (Some e) n = record { answer = answer_for e.fate e.at; report = r.report; count = e.count }
scanned_of r None n = record { answer = r.answer; report = r.report; count = n }
