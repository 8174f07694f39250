-- What the round trip asks of records, and what a reading gives.
-- Assumes nothing.
use Rattle.std.specs.Prelude.{◌≡◌, true, List, ℕ, ◌≤◌, length}
use Rattle.semantics.specs.ListLaws.{All}
use Rattle.book.specs.Books.{Entry, IsEntry, once}
use Rattle.ledger.specs.Reading.{numbers_of}

-- Records in range of which no two have one number, where so many fit.
pub record Sound (room : ℕ) (es : List Entry) : Type 0 where
  pub entries : All IsEntry es
  pub sockets : once (numbers_of es) ≡ true
  pub roomy : length es ≤ room
