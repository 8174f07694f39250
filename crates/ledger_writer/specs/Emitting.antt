-- What an emitter does: it writes a text where it is live, and else measures it. What `write` promises.
-- Assumes nothing.
use Rattle.std.specs.Prelude.{◌≡◌, Bool, true, cond, Result, Ok, Err, List, [], ℕ, ◌+◌, ◌≤◌, ◌<◌, ◌^◌, length}
use Rattle.semantics.specs.ObjectOperators.{pasted}
use Rattle.ledger.specs.Ledger.{Writing, malformed, too_short, written, writing, line}
use Rattle.book.specs.Books.{entry_of}
use Rattle.book.specs.declared.Record.{Record}
use Rattle.ledger_writer.specs.declared.WriteError.{WriteError}
use Rattle.ledger_writer.specs.declared.WriteError.TheVariants.{BookMalformed, TooShort}

-- r is the place after the text t, and where it is live t is written into `old` from `at` on.
pub record Emitted (live : Bool) (at : ℕ) (t old new : List ℕ) (r : ℕ) : Type 0 where
  pub end : r ≡ at + length t
  pub bytes : new ≡ cond live (pasted at t old) old

-- The text's length is a number, and where it is live there is room.
pub record Roomy (live : Bool) (at : ℕ) (t old : List ℕ) : Type 0 where
  pub small : at + length t < 2 ^ 64
  pub fits : live ≡ true → at + length t ≤ length old

-- A record's line.
unfoldable pub line_of : Record → List ℕ
line_of r = line (entry_of r) []

-- The answer to what becomes of a book that is written, and the lent text after it.
abbrev pub answer_of : Writing → Result ℕ WriteError
answer_of malformed = Err BookMalformed
answer_of too_short = Err TooShort
answer_of (written t) = Ok (length t)

abbrev pub text_after : Writing → List ℕ → List ℕ
text_after malformed old = old
text_after too_short old = old
text_after (written t) old = pasted 0 t old

-- The answer is the definition's. Bytes past the text stay; a refusal writes nothing.
pub record Writes (book : List Record) (count : ℕ) (old new : List ℕ) (r : Result ℕ WriteError) : Type 0 where
  pub answer : r ≡ answer_of (writing book count (length old))
  pub text : new ≡ text_after (writing book count (length old)) old
