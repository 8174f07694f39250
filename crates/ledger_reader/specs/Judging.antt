-- What the judging of a whole text tells, and what `read` promises (02, W11).
-- Assumes nothing.
use Rattle.std.specs.Prelude.{◌≡◌, Option, Some, None, Result, Ok, Err, List, ℕ, ◌≤◌, length, drop}
use Rattle.std.proofs.Math.Option.{none, some}
use Rattle.book.specs.Books.{Entry, room_of}
use Rattle.book.specs.declared.Record.{Record}
use Rattle.ledger.specs.Reading as reading
use Rattle.ledger.specs.Reading.{Read, accepted, refused, after_header, replaced}
use Rattle.ledger_reader.specs.Lines.{RestAt}
use Rattle.ledger_reader.specs.declared.Flaw.{Flaw}
use Rattle.ledger_reader.specs.declared.Flaw.TheVariants as flaw
use Rattle.ledger_reader.specs.declared.LedgerError.{LedgerError}
use Rattle.ledger_reader.specs.declared.LedgerError.TheVariants.{BadHeader, BadQuoting, FieldCount, BadNumber, BadPlace, SocketTwice, TooMany}
use Rattle.ledger_reader.specs.declared.Judged.{Judged}

-- The answer to a reading: how many records were read, or why the text is refused.
abbrev pub answer_of : Read (List Entry) → Result ℕ LedgerError
answer_of (accepted es) = Ok (length es)
answer_of (refused reading.bad_header) = Err BadHeader
answer_of (refused reading.bad_quoting) = Err BadQuoting
answer_of (refused reading.field_count) = Err FieldCount
answer_of (refused reading.bad_number) = Err BadNumber
answer_of (refused reading.bad_place) = Err BadPlace
answer_of (refused reading.socket_twice) = Err SocketTwice
answer_of (refused reading.too_many) = Err TooMany

-- An accepted text's records replace the book; a refusal leaves it.
abbrev pub book_after : Read (List Entry) → List Record → List Record
book_after (accepted es) book = replaced es book
book_after (refused why) book = book

-- A flaw of a line as a refusal of the text.
abbrev pub error_for : Flaw → LedgerError
error_for flaw.FieldCount = FieldCount
error_for flaw.BadNumber = BadNumber
error_for flaw.BadPlace = BadPlace

-- The offset of the first line, if the header is good.
abbrev pub Headed : List ℕ → Option ℕ → Type 0
Headed text None = after_header text ≡ none
Headed text (Some r) = (r ≤ length text) × (after_header text ≡ some (drop r text))

-- The answer, and the records that are to be filled in.
abbrev pub Judges : ℕ → List ℕ → Result Judged LedgerError → Type 0
Judges room text (Ok j) = (es : List Entry) × (reading.reading room text ≡ accepted es) × (j.count ≡ length es) × RestAt text j.start es
Judges room text (Err e) = (why : reading.Refusal) × (reading.reading room text ≡ refused why) × (answer_of (refused why) ≡ Err e)

-- The answer is the definition's, and so is the book.
pub record Reads (text : List ℕ) (book book' : List Record) (r : Result ℕ LedgerError) : Type 0 where
  pub answer : r ≡ answer_of (reading.reading (room_of (length book)) text)
  pub records : book' ≡ book_after (reading.reading (room_of (length book)) text) book
