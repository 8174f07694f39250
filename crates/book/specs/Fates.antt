-- What becomes of an entry (02, W3): the late decision, and the book after it.
-- Assumes nothing.
use Rattle.std.specs.Prelude.{◌≡◌, Bool, true, false, cond, Option, Some, None, List, ℕ, ◌+◌, length, get_or, set, ltb}
use Rattle.book.specs.Books.{Entry, record_of, blank, room_of, place_of}
use Rattle.book.specs.declared.Record.{Record}
use Rattle.book.specs.declared.Entered.{Entered}
use Rattle.book.specs.declared.Fate.{Fate}
use Rattle.book.specs.declared.Fate.TheVariants.{Replaces, Adds, Late, Full}

-- A scan strictly later than the stored time replaces the record; an equal or earlier one is late. A new socket goes after the last, if there is room.
unfoldable pub fate_of : Bool → ℕ → ℕ → ℕ → ℕ → Fate
fate_of found stored time count room = cond found (cond (ltb stored time) Replaces Late) (cond (ltb count room) Adds Full)

-- The fate of an entry in a book.
unfoldable pub fate_in : List Record → ℕ → Record → Fate
fate_in book count r =
    fate_of (ltb (place_of book count r.number) count) (get_or book (place_of book count r.number) blank).time r.time count (room_of (length book))

-- It replaces a record.
abbrev pub is_replacing : Fate → Bool
is_replacing Replaces = true
is_replacing Adds = false
is_replacing Late = false
is_replacing Full = false

-- It is added.
abbrev pub is_adding : Fate → Bool
is_adding Replaces = false
is_adding Adds = true
is_adding Late = false
is_adding Full = false

-- An entry that replaces or adds takes its place; the others leave the book as it was.
unfoldable pub book_with : Fate → ℕ → Record → List Record → List Record
book_with Replaces at r book = set book at r
book_with Adds at r book = set book at r
book_with Late at r book = book
book_with Full at r book = book

-- The book after an entry.
unfoldable pub book_after : List Record → ℕ → Record → List Record
book_after book count r = book_with (fate_in book count r) (place_of book count r.number) r book

-- The count after it.
unfoldable pub count_after : List Record → ℕ → Record → ℕ
count_after book count r = cond (is_adding (fate_in book count r)) (count + 1) count

-- The entry is accepted: it replaces a record or is added.
pub data Accepted (book : List Record) (count : ℕ) (e : Entry) : Type 0 where
  replaces : fate_in book count (record_of e) ≡ Replaces → Accepted book count e
  adds : fate_in book count (record_of e) ≡ Adds → Accepted book count e

-- An entry leaves the book after it, and is told its fate, its place and the count; where there is none the book is as it was, and nothing is told.
abbrev pub Enters : Option Record → ℕ → List Record → List Record → Option Entered → Type 0
Enters (Some r) n b b' told =
    (told ≡ Some (record { fate = fate_in b n r; at = place_of b n r.number; count = count_after b n r })) × (b' ≡ book_after b n r)
Enters None n b b' told = (told ≡ None) × (b' ≡ b)

-- Opens every definition of this file.
unfoldable pub fated : Unit {0}
unfolding fate_of fate_in book_with book_after count_after
fated = tt
