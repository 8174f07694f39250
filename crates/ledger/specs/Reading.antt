-- The reading of a ledger (02, W11). Bytes are read in modes; each refusal is looked for in the whole text before the next.
-- Assumes nothing.
use Rattle.std.specs.Prelude.{Bool, true, false, ◌&&◌, ◌||◌, cond, List, [], ◌∷◌, ◌++◌, map, ℕ, ◌+◌, ◌-◌, ◌*◌, length, take, drop, leb, eqb}
use Rattle.std.proofs.Math.Option.{Option, none, some}
use Rattle.semantics.specs.Text.{same}
use Rattle.semantics.specs.Tokens.{is_digit}
use Rattle.book.specs.Books.{Entry, record_of, greatest, is_place_length, once}
use Rattle.book.specs.declared.Record.{Record}
use Rattle.ledger.specs.Ledger.{header}

-- ---- answers

-- In the order in which they are looked for.
pub data Refusal : Type 0 where
  bad_header bad_quoting field_count bad_number bad_place socket_twice too_many : Refusal

-- What a text is read as, or why it is refused.
pub data Read (A : Type 0) : Type 0 where
  accepted : A → Read A
  refused : Refusal → Read A

infixl 10 ◌>>=◌
unfoldable pub ◌>>=◌ : {A B : Type 0} → Read A → (A → Read B) → Read B
◌>>=◌ (accepted a) f = f a
◌>>=◌ (refused r) f = refused r

-- What is there, else the refusal.
unfoldable pub given : {A : Type 0} → Option A → Refusal → Read A
given none r = refused r
given (some a) r = accepted a

-- Nothing where the test holds, else the refusal.
unfoldable pub check : Bool → Refusal → Read (Unit {0})
check true r = accepted tt
check false r = refused r

-- ---- the header

-- What follows CRLF or the end.
unfoldable pub after_break : List ℕ → Option (List ℕ)
after_break [] = some []
after_break (b ∷ []) = none
after_break (b ∷ c ∷ s) = cond (eqb b 13 && eqb c 10) (some s) none

-- The lines after the header: exactly its bytes, then CRLF or the end.
unfoldable pub after_header : List ℕ → Option (List ℕ)
after_header text = cond (same (take 17 text) header) (after_break (drop 17 text)) none

-- ---- fields and lines

-- Where the next byte stands.
pub data Mode : Type 0 where
  fresh : Mode  -- at the start of a line
  begins : Mode  -- after a comma
  plain : Mode  -- in a field without quotes
  quoted : Mode  -- between quotes
  closing : Mode  -- after a quote that closes the field or is the first of two
  returned : Mode  -- after a CR outside quotes

-- What the next byte does.
pub data Act : Type 0 where
  keep : Mode → Act  -- it is the field's next byte
  pass : Mode → Act  -- it is no byte of the field
  end_field end_line bad : Act

-- After a field: a comma or CRLF.
unfoldable pub closed_act : ℕ → Act
closed_act b = cond (eqb b 44) end_field (cond (eqb b 13) (pass returned) bad)

-- In a field without quotes: no quote, no lone LF.
unfoldable pub plain_act : ℕ → Act
plain_act b = cond (eqb b 44) end_field (cond (eqb b 13) (pass returned) (cond (eqb b 34 || eqb b 10) bad (keep plain)))

unfoldable pub first_act : ℕ → Act
first_act b = cond (eqb b 34) (pass quoted) (plain_act b)

unfoldable pub act : Mode → ℕ → Act
act fresh b = first_act b
act begins b = first_act b
act plain b = plain_act b
act quoted b = cond (eqb b 34) (pass closing) (keep quoted)
act closing b = cond (eqb b 34) (keep quoted) (closed_act b)
act returned b = cond (eqb b 10) end_line bad

-- Lines of fields of bytes.
abbrev pub Lines : Type 0
Lines = List (List (List ℕ))

-- One empty field, which the bytes in front of it fill.
unfoldable pub ended : List (List ℕ)
ended = [] ∷ []

-- A byte goes in front of the first line's first field.
unfoldable pub in_front : ℕ → Lines → Lines
in_front b [] = ((b ∷ []) ∷ []) ∷ []
in_front b ([] ∷ ls) = ((b ∷ []) ∷ []) ∷ ls
in_front b ((f ∷ fs) ∷ ls) = ((b ∷ f) ∷ fs) ∷ ls

-- An empty field goes in front of the first line.
unfoldable pub new_field : Lines → Lines
new_field [] = ended ∷ []
new_field (l ∷ ls) = ([] ∷ l) ∷ ls

-- A line that ends here goes in front.
unfoldable pub new_line : Lines → Lines
new_line ls = ended ∷ ls

unfoldable pub mapped : {A B : Type 0} → (A → B) → Option A → Option B
mapped f none = none
mapped f (some a) = some (f a)

-- What is left to read from an act on, given the reading of the bytes after it in each mode.
unfoldable pub read_on : (Mode → Option Lines) → ℕ → Act → Option Lines
read_on rest b (keep m) = mapped (in_front b) (rest m)
read_on rest b (pass m) = rest m
read_on rest b end_field = mapped new_field (rest begins)
read_on rest b end_line = mapped new_line (rest fresh)
read_on rest b bad = none

-- The end of the text begins no line, ends a field, and is bad between quotes and after CR.
unfoldable pub read_end : Mode → Option Lines
read_end fresh = some []
read_end begins = some (ended ∷ [])
read_end plain = some (ended ∷ [])
read_end quoted = none
read_end closing = some (ended ∷ [])
read_end returned = none

-- The rest of the field, the line and the text; nothing where quoting is bad.
unfoldable pub read_from : Mode → List ℕ → Option Lines
read_from m [] = read_end m
read_from m (b ∷ s) = read_on (λ next. read_from next s) b (act m b)

-- ---- records

-- What each element stands for; nothing where one stands for nothing.
unfoldable pub each : {A B : Type 0} → (A → Option B) → List A → Option (List B)
each f [] = some []
each f (a ∷ l) = elim (f a) [ none ↦ none | some b ↦ mapped (◌∷◌ b) (each f l) ]

-- The three fields of a record.
pub record Row : Type 0 where
  pub number : List ℕ
  pub place : List ℕ
  pub time : List ℕ

unfoldable pub row_of : List (List ℕ) → Option Row
row_of [] = none
row_of (n ∷ []) = none
row_of (n ∷ p ∷ []) = none
row_of (n ∷ p ∷ t ∷ []) = some (record { number = n; place = p; time = t })
row_of (n ∷ p ∷ t ∷ f ∷ fs) = none

-- The number that decimal digits write, n being what those before them write; nothing where a byte is no digit.
unfoldable pub digits_on : ℕ → List ℕ → Option ℕ
digits_on n [] = some n
digits_on n (b ∷ s) = elim (is_digit b) [ true ↦ digits_on (n * 10 + (b - 48)) s | false ↦ none ]

-- At most 2147483647.
unfoldable pub limited : Option ℕ → Option ℕ
limited none = none
limited (some n) = cond (leb n greatest) (some n) none

-- One or more digits; leading zeros may stand.
unfoldable pub number_in : List ℕ → Option ℕ
number_in [] = none
number_in (b ∷ s) = limited (digits_on 0 (b ∷ s))

unfoldable pub with_numbers : List ℕ → Option ℕ → Option ℕ → Option Entry
with_numbers p none t = none
with_numbers p (some n) none = none
with_numbers p (some n) (some t) = some (record { number = n; place = p; time = t })

unfoldable pub entry_in : Row → Option Entry
entry_in r = with_numbers r.place (number_in r.number) (number_in r.time)

unfoldable pub places_fit : List Entry → Bool
places_fit [] = true
places_fit (e ∷ es) = is_place_length (length e.place) && places_fit es

unfoldable pub numbers_of : List Entry → List ℕ
numbers_of es = map (λ (e : Entry). e.number) es

-- The records of a text, where so many fit.
unfoldable pub reading : ℕ → List ℕ → Read (List Entry)
reading room text = do
  body ← given (after_header text) bad_header
  ls ← given (read_from fresh body) bad_quoting
  rows ← given (each row_of ls) field_count
  es ← given (each entry_in rows) bad_number
  _ ← check (places_fit es) bad_place
  _ ← check (once (numbers_of es)) socket_twice
  _ ← check (leb (length es) room) too_many
  accepted es

-- An accepted text's records replace the book; lent records past its count stay.
unfoldable pub replaced : List Entry → List Record → List Record
replaced es book = map record_of es ++ drop (length es) book

-- Opens every definition of this file.
unfoldable pub readings : Unit {0}
unfolding ◌>>=◌ given check after_break after_header closed_act plain_act first_act act ended in_front new_field new_line mapped read_on read_end read_from each row_of digits_on limited number_in with_numbers entry_in places_fit numbers_of reading replaced
readings = tt
