-- The round trip for books: a sound book that is written reads back as what it says, in the same order; a book that an accepted text
-- replaces is sound, and says what the text says. A text has at most 19 bytes and 88 for each record.
-- Assumes nothing.
use Rattle.std.specs.Prelude.{◌≡◌, length}
use Rattle.book.specs.declared.Record.{Record}

-- ---- a sound book's entries are sound

-- A lent record: its place has 31 bytes.
abbrev pub Whole : Record → Type 0
Whole r = length r.place ≡ 31
