-- What the code's modes, acts and closes stand for, what is kept of a field's bytes, and what a field that was read says of the text (02, W11).
-- Assumes nothing.
use Rattle.std.specs.Prelude.{◌≡◌, true, ◌&&◌, cond, List, [], ◌∷◌, ℕ, ◌+◌, ◌-◌, ◌*◌, ◌≤◌, length, drop, set, replicate, leb, ltb}
use Rattle.semantics.specs.Tokens.{is_digit}
use Rattle.ledger.specs.Reading as reading
use Rattle.ledger.specs.Pieces as pieces
use Rattle.ledger.specs.Pieces.{piece_from}
use Rattle.ledger_fields.specs.declared.Mode.{Mode}
use Rattle.ledger_fields.specs.declared.Mode.TheVariants.{Fresh, Begins, Plain, Quoted, Closing, Returned}
use Rattle.ledger_fields.specs.declared.Act.{Act}
use Rattle.ledger_fields.specs.declared.Act.TheVariants.{KeepPlain, KeepQuoted, Open, Shut, Return, EndField, EndLine, Bad}
use Rattle.ledger_fields.specs.declared.Close.{Close}
use Rattle.ledger_fields.specs.declared.Close.TheVariants.{Comma, Line, End, Over, Wrong}
use Rattle.ledger_fields.specs.declared.Seen.{Seen}
use Rattle.ledger_fields.specs.declared.Field.{Field}

abbrev pub mode_is : Mode → reading.Mode
mode_is Fresh = reading.fresh
mode_is Begins = reading.begins
mode_is Plain = reading.plain
mode_is Quoted = reading.quoted
mode_is Closing = reading.closing
mode_is Returned = reading.returned

abbrev pub act_is : Act → reading.Act
act_is KeepPlain = reading.keep reading.plain
act_is KeepQuoted = reading.keep reading.quoted
act_is Open = reading.pass reading.quoted
act_is Shut = reading.pass reading.closing
act_is Return = reading.pass reading.returned
act_is EndField = reading.end_field
act_is EndLine = reading.end_line
act_is Bad = reading.bad

abbrev pub close_is : Close → pieces.Close
close_is Comma = pieces.comma
close_is Line = pieces.line
close_is End = pieces.end
close_is Over = pieces.over
close_is Wrong = pieces.wrong

-- ---- what is kept of a field's bytes

-- So many bytes, and one more; 32 stands for all that are more than 31.
unfoldable pub grown_by : ℕ → ℕ
grown_by size = cond (ltb size 32) (size + 1) 32

-- The number with one digit more; 2147483648 stands for all that are greater than 2147483647.
unfoldable pub summed_by : ℕ → ℕ → ℕ
summed_by number b = cond (is_digit b) (cond (leb number 214748364) (number * 10 + (b - 48)) 2147483648) number

-- The place with one byte more, where it has room.
unfoldable pub placed_by : List ℕ → ℕ → ℕ → List ℕ
placed_by place size b = cond (ltb size 31) (set place size b) place

unfoldable pub taken_by : Seen → ℕ → Seen
taken_by s b = record { size = grown_by s.size; number = summed_by s.number b; digits = s.digits && is_digit b; place = placed_by s.place s.size b }

abbrev pub unseen : Seen
unseen = record { size = 0; number = 0; digits = true; place = replicate 31 0 }

unfoldable pub seen_from : Seen → List ℕ → Seen
seen_from s [] = s
seen_from s (b ∷ f) = seen_from (taken_by s b) f

-- The first field of the text from `at` on: what is kept of its bytes, where it ends, and by what.
pub record FieldAt (text : List ℕ) (at : ℕ) (mode : Mode) (r : Field) : Type 0 where
  pub sees : seen_from unseen (piece_from (mode_is mode) (drop at text)).contents ≡ r.seen
  pub places : at + (piece_from (mode_is mode) (drop at text)).taken ≡ r.next
  pub closes : (piece_from (mode_is mode) (drop at text)).close ≡ close_is r.close
  pub inside : r.next ≤ length text
