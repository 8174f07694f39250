-- What is told in C of a ledger that was written or read (02, W11): the answers by their numbers, in 02's order.
-- Assumes nothing.
use Rattle.std.specs.Prelude.{◌≡◌, Result, Ok, Err, List, ℕ}
use Rattle.book.specs.declared.Record.{Record}
use Rattle.ledger_writer.specs.declared.WriteError.{WriteError}
use Rattle.ledger_writer.specs.declared.WriteError.TheVariants.{BookMalformed, TooShort}
use Rattle.ledger_writer.specs.Emitting.{Writes}
use Rattle.ledger_reader.specs.declared.LedgerError.{LedgerError}
use Rattle.ledger_reader.specs.declared.LedgerError.TheVariants.{BadHeader, BadQuoting, FieldCount, BadNumber, BadPlace, SocketTwice, TooMany}
use Rattle.ledger_reader.specs.Judging.{Reads}
use Rattle.ledger_c.specs.declared.Reply.{Reply}

-- 1 to 9: the refusals; 10: it is done.
abbrev pub written_number : Result ℕ WriteError → ℕ
written_number (Err BookMalformed) = 1
written_number (Err TooShort) = 9
written_number (Ok bytes) = 10

abbrev pub read_number : Result ℕ LedgerError → ℕ
read_number (Ok records) = 10
read_number (Err BadHeader) = 2
read_number (Err BadQuoting) = 3
read_number (Err FieldCount) = 4
read_number (Err BadNumber) = 5
read_number (Err BadPlace) = 6
read_number (Err SocketTwice) = 7
read_number (Err TooMany) = 8

-- The bytes that were written, the records that were read; 0 where it is refused.
abbrev pub written_bytes : Result ℕ WriteError → ℕ
written_bytes (Err BookMalformed) = 0
written_bytes (Err TooShort) = 0
written_bytes (Ok bytes) = bytes

abbrev pub read_records : Result ℕ LedgerError → ℕ
read_records (Ok records) = records
read_records (Err BadHeader) = 0
read_records (Err BadQuoting) = 0
read_records (Err FieldCount) = 0
read_records (Err BadNumber) = 0
read_records (Err BadPlace) = 0
read_records (Err SocketTwice) = 0
read_records (Err TooMany) = 0

abbrev pub of_written : Result ℕ WriteError → Reply
of_written w = record { answer = written_number w; count = written_bytes w }

abbrev pub of_reading : Result ℕ LedgerError → Reply
of_reading r = record { answer = read_number r; count = read_records r }

-- What `write` and `read` promise, and the reply to it.
pub record WriteReplies (book : List Record) (count : ℕ) (old new : List ℕ) (r : Reply) : Type 0 where
  pub written : Result ℕ WriteError
  pub writes : Writes book count old new written
  pub reply : r ≡ of_written written

pub record ReadReplies (text : List ℕ) (book book' : List Record) (r : Reply) : Type 0 where
  pub reading : Result ℕ LedgerError
  pub reads : Reads text book book' reading
  pub reply : r ≡ of_reading reading
