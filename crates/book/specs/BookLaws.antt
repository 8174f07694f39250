-- What an entry does to a book (02, W3). After an accepted entry the book says it, says of every other socket what it said, and is sound; so two accepted entries of different sockets
-- leave the same in either order.
-- Assumes nothing.
use Rattle.std.specs.Prelude.{ℕ}
use mathlib.Core.List.{List}
use Rattle.std.proofs.Math.Option.{Option}
use Rattle.book.specs.Books.{Entry, record_of, said}
use Rattle.book.specs.Fates.{book_after, count_after}
use Rattle.book.specs.declared.Record.{Record}

-- The book, and how many records it has, after an accepted entry.
abbrev pub book_then : List Record → ℕ → Entry → List Record
book_then b n e = book_after b n (record_of e)

abbrev pub count_then : List Record → ℕ → Entry → ℕ
count_then b n e = count_after b n (record_of e)

-- What the book says of socket k after x and then y.
abbrev pub said_then : List Record → ℕ → Entry → Entry → ℕ → Option Entry
said_then b n x y k = said k (book_then (book_then b n x) (count_then b n x) y) (count_then (book_then b n x) (count_then b n x) y)
