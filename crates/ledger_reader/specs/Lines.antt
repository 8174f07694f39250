-- What a line that was read says of the text, and the records that are left from a place on (02, W11).
-- Assumes nothing.
use Rattle.std.specs.Prelude.{◌≡◌, Bool, true, false, ◌&&◌, ◌||◌, cond, Option, Some, None, IfSome, Result, Ok, Err, IfOk, List, [], ◌∷◌, ℕ, ◌≤◌, ◌<◌, length, drop, leb}
use Rattle.std.proofs.Math.Option.{none, some}
use Rattle.book.specs.Books.{Entry, blank, greatest, is_place_length, is_in, once}
use Rattle.book.specs.declared.Record.{Record}
use Rattle.ledger.specs.Reading.{fresh, Lines, read_from, each, Row, row_of, entry_in, places_fit, numbers_of, replaced}
use Rattle.ledger.specs.Stages.{Ranked, Staged}
use Rattle.ledger_fields.specs.declared.Seen.{Seen}
use Rattle.ledger_reader.specs.declared.Line.{Line}
use Rattle.ledger_reader.specs.declared.Flaw.{Flaw}
use Rattle.ledger_reader.specs.declared.Flaw.TheVariants.{FieldCount, BadNumber, BadPlace}

-- ---- a line

-- One or more digits, at most 2147483647.
unfoldable pub is_number : Seen → Bool
is_number s = leb 1 s.size && (s.digits && leb s.number greatest)

abbrev pub entry_by : Seen → Seen → Seen → Record
entry_by n p t = record { number = n.number; place = p.place; length = p.size; time = t.number }

-- What a line of these three fields is.
unfoldable pub record_by : Seen → Seen → Seen → Result Record Flaw
record_by n p t = cond (is_number n) (cond (is_number t) (cond (is_place_length p.size) (Ok (entry_by n p t)) (Err BadPlace)) (Err BadNumber)) (Err BadNumber)

-- The stage of the reading that a line with this flaw does not pass, and the stage and the record of a line.
abbrev pub rank_of : Flaw → ℕ
rank_of FieldCount = 0
rank_of BadNumber = 1
rank_of BadPlace = 2

abbrev pub rank_is : Result Record Flaw → ℕ
rank_is (Ok _) = 3
rank_is (Err f) = rank_of f

abbrev pub entry_is : Result Record Flaw → Record
entry_is (Ok r) = r
entry_is (Err _) = blank

-- The first of the lines from `at` on, where they are readable: it has not three fields; or it has its rank, and the others go on from `next`.
pub data LineHas (text : List ℕ) (at : ℕ) (ls : Lines) (r : Line) : Type 0 where
  uneven : rank_is r.entry ≡ 0 → each row_of ls ≡ none → LineHas text at ls r
  line : {l : List (List ℕ)} {rest : Lines}
      → ls ≡ l ∷ rest
      → Ranked l (rank_is r.entry) (entry_is r.entry)
      → (rank_is r.entry ≡ 0 → ⊥)
      → read_from fresh (drop r.next text) ≡ some rest
      → at < r.next
      → LineHas text at ls r

-- The same where there may be none.
abbrev pub LineIs : List ℕ → ℕ → Lines → Option Line → Type 0
LineIs text at ls None = ls ≡ []
LineIs text at ls (Some r) = LineHas text at ls r

pub record LineAt (text : List ℕ) (at : ℕ) (r : Option Line) : Type 0 where
  pub inside : IfSome r (λ (n : Line). n.next ≤ length text)
  pub told : (ls : Lines) → read_from fresh (drop at text) ≡ some ls → LineIs text at ls r

-- ---- the lines from a place on

-- The stage of what was found so far, and of all lines; 3 where they pass all three.
abbrev pub rank_told : Option Flaw → ℕ
rank_told None = 3
rank_told (Some f) = rank_of f

abbrev pub rank_all : Result ℕ Flaw → ℕ
rank_all (Ok _) = 3
rank_all (Err f) = rank_of f

-- They are readable, and so many, and this is the stage that they do not pass.
pub record Tallied (text : List ℕ) (at : ℕ) (r : Result ℕ Flaw) : Type 0 where
  pub lines : Lines
  pub reads : read_from fresh (drop at text) ≡ some lines
  pub staged : Staged lines (rank_all r)
  pub counts : IfOk r (λ n. length lines ≡ n)

-- They are these records.
pub record RestAt (text : List ℕ) (at : ℕ) (es : List Entry) : Type 0 where
  pub inside : at ≤ length text
  pub lines : Lines
  pub rows : List Row
  pub reads : read_from fresh (drop at text) ≡ some lines
  pub threes : each row_of lines ≡ some rows
  pub numbers : each entry_in rows ≡ some es
  pub places : places_fit es ≡ true

-- They are records.
abbrev pub Rests : List ℕ → ℕ → Type 0
Rests text at = (es : List Entry) × RestAt text at es

-- Whether one of the second numbers is among the first.
unfoldable pub shares : List ℕ → List ℕ → Bool
shares ws [] = false
shares ws (n ∷ ns) = is_in n ws || shares ws ns

-- Whether one of the records has one of these numbers, and whether no two have one number.
pub record MeetsIn (text : List ℕ) (at : ℕ) (numbers : List ℕ) (r : Bool) : Type 0 where
  pub records : List Entry
  pub rest : RestAt text at records
  pub found : r ≡ shares numbers (numbers_of records)

pub record OnceIn (text : List ℕ) (at : ℕ) (r : Bool) : Type 0 where
  pub records : List Entry
  pub rest : RestAt text at records
  pub alone : r ≡ once (numbers_of records)

-- ---- the book

-- They are so many records, and there is room for them.
pub record Fillable (text : List ℕ) (start count : ℕ) (b : List Record) : Type 0 where
  pub records : List Entry
  pub rest : RestAt text start records
  pub size : length records ≡ count
  pub room : count ≤ length b

-- They stand in the book now, and the records past them as they stood.
abbrev pub Fills : List ℕ → ℕ → List Record → List Record → Type 0
Fills text start b b' = (es : List Entry) → RestAt text start es → b' ≡ replaced es b
