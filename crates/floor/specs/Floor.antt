-- The floor rule for late scans (02, W3): a label is lent to a script, and what the run leaves on its stack goes into the book.
-- Assumes nothing.
use Rattle.std.specs.Prelude.{Bool, true, false, not, cond, List, [], ◌∷◌, ◌++◌, ℕ, ◌+◌, length, leb, ltb}
use Rattle.std.proofs.Math.Option.{Option, none, some}
use Rattle.semantics.specs.Sizes.{name_count}
use Rattle.semantics.specs.Text.{bytes, decimal}
use Rattle.semantics.specs.Values.{Value, integer, boolean, null, mark, operator, name, string, array, text, current, cells}
use Rattle.semantics.specs.Machine.{Machine, object, bytes_of}
use Rattle.semantics.specs.Steps.{State, Ending, finished, stopped, out_of_fuel, failed, misread, Run, run, start_of, initial, lending}
use Rattle.semantics.specs.Setup.{Lent, limits, refusal}
use Rattle.book.specs.Books.{Entry, greatest, is_place_length, is_sound, record_of, place_of}
use Rattle.book.specs.Fates.{fate_in, book_after, count_after}
use Rattle.book.specs.declared.Record.{Record}
use Rattle.book.specs.declared.Fate.{Fate}
use Rattle.book.specs.declared.Fate.TheVariants as fate
use Rattle.floor.specs.declared.Answer.{Answer}
use Rattle.floor.specs.declared.Answer.TheVariants.{Refused, BookMalformed, LabelTooLong, NoSlot, NoCells, NotFinished, BadStack, Late, NoRoom, Replaced, Added}

-- All that a scan is given but the book.
pub record Asked : Type 0 where
  pub script : List ℕ
  pub fuel : ℕ
  pub label : List ℕ
  pub lent : Lent

-- ---- the answers, in the paper's words

unfoldable pub answer_text : Answer → List ℕ
answer_text (Refused n) = bytes "refused=" ++ decimal n
answer_text BookMalformed = bytes "book malformed"
answer_text LabelTooLong = bytes "label over 512 bytes"
answer_text NoSlot = bytes "no slot for label"
answer_text NoCells = bytes "no cells for label"
answer_text NotFinished = bytes "run not finished"
answer_text BadStack = bytes "stack not of this form"
answer_text Late = bytes "late"
answer_text NoRoom = bytes "no room for a new socket"
answer_text (Replaced at) = bytes "replaces the record at " ++ decimal at
answer_text (Added at) = bytes "goes after the last, at " ++ decimal at

-- ---- before the run

abbrev pub label_most : ℕ
label_most = 512

-- What is refused before the run, in the paper's order: those of setup, the book, the label, its slot and its cells (F3, F9, F10).
unfoldable pub before : Asked → Bool → Option Answer
before a sound =
    let number = refusal a.script a.fuel a.lent in
    let room = limits a.lent in
    cond (ltb 0 number) (some (Refused number))
    (cond (not sound) (some BookMalformed)
    (cond (ltb label_most (length a.label)) (some LabelTooLong)
    (cond (ltb room.dictionary_slots (name_count + 1)) (some NoSlot)
    (cond (ltb room.cell_count (cells (text a.label))) (some NoCells)
    none))))

-- ---- the run

-- The label is the string bound to `label` before step 1 (F8, F11).
unfoldable pub labelled : List ℕ → State
labelled label = start_of (lending (bytes "label") label initial.machine)

unfoldable pub run_of : Asked → Run
run_of a = run (limits a.lent) a.script a.fuel (labelled a.label)

-- ---- what it leaves

-- An integer from 0.
unfoldable pub number_in : Value → Option ℕ
number_in (integer w) = cond (leb w greatest) (some w) none
number_in (boolean b) = none
number_in null = none
number_in mark = none
number_in (operator o) = none
number_in (name x n) = none
number_in (string i) = none
number_in (array x i) = none

-- A string of 1 to 31 current bytes.
unfoldable pub place_in : Machine → Value → Option (List ℕ)
place_in m (integer w) = none
place_in m (boolean b) = none
place_in m null = none
place_in m mark = none
place_in m (operator o) = none
place_in m (name x n) = none
place_in m (string i) = let t = current (bytes_of (object m i)) in cond (is_place_length (length t)) (some t) none
place_in m (array x i) = none

unfoldable pub entry_with : Option ℕ → Option (List ℕ) → Option ℕ → Option Entry
entry_with (some n) (some p) (some t) = some (record { number = n; place = p; time = t })
entry_with (some n) (some p) none = none
entry_with (some n) none t = none
entry_with none p t = none

-- Exactly three items: a socket number, a place and a scan time, in that order from the bottom (F14).
unfoldable pub entry_from : Machine → List Value → Option Entry
entry_from m [] = none
entry_from m (t ∷ []) = none
entry_from m (t ∷ p ∷ []) = none
entry_from m (t ∷ p ∷ n ∷ []) = entry_with (number_in n) (place_in m p) (number_in t)
entry_from m (t ∷ p ∷ n ∷ v ∷ s) = none

unfoldable pub is_final : Ending → Bool
is_final finished = true
is_final stopped = false
is_final out_of_fuel = false
is_final (failed e c) = false
is_final (misread f) = false

-- ---- the whole scan

-- The answer, and the book and its count after it.
pub record Scan : Type 0 where
  pub answer : Answer
  pub book : List Record
  pub count : ℕ

-- A refusal leaves the book as it was.
unfoldable pub keeping : List Record → ℕ → Answer → Scan
keeping b n x = record { answer = x; book = b; count = n }

abbrev pub answer_for : Fate → ℕ → Answer
answer_for fate.Replaces at = Replaced at
answer_for fate.Adds at = Added at
answer_for fate.Late at = Late
answer_for fate.Full at = NoRoom

-- The entry goes into the book, or is late, or has no room (F15 to F18).
unfoldable pub entering : List Record → ℕ → Option Entry → Scan
entering b n none = keeping b n BadStack
entering b n (some e) =
    let r = record_of e in
    record { answer = answer_for (fate_in b n r) (place_of b n r.number); book = book_after b n r; count = count_after b n r }

unfoldable pub after_run : List Record → ℕ → Run → Scan
after_run b n r = cond (is_final r.ending) (entering b n (entry_from r.final.machine r.final.machine.stack)) (keeping b n NotFinished)

-- Where nothing is refused before it, the run decides.
unfoldable pub ruled : List Record → ℕ → Run → Option Answer → Scan
ruled b n r (some x) = keeping b n x
ruled b n r none = after_run b n r

unfoldable pub scan_of : Asked → List Record → ℕ → Scan
scan_of a b n = ruled b n (run_of a) (before a (is_sound b n))

-- Opens every definition of this file.
unfoldable pub floored : Unit {0}
unfolding answer_text before labelled run_of number_in place_in entry_with entry_from is_final keeping entering after_run ruled scan_of
floored = tt
