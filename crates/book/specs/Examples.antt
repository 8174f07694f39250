-- The cases of 02, W3, worked out by hand and computed.
-- Assumes nothing.
use Rattle.std.specs.Prelude.{◌≡◌, refl, true, false, List, [], ◌∷◌, ℕ, zero, suc, length, replicate}
use Rattle.std.proofs.Math.Option.{none, some}
use Rattle.book.specs.Books.{Entry, record_of, blank, is_sound, said, booked}
use Rattle.book.specs.Fates.{fate_in, book_after, count_after, fated}
use Rattle.book.specs.declared.Record.{Record}
use Rattle.book.specs.declared.Fate.TheVariants.{Replaces, Adds, Late, Full}

-- An entry of a socket at a time, at the place "A1".
abbrev scan : ℕ → ℕ → Entry
scan number time = record { number = number; place = 65 ∷ 49 ∷ []; time = time }

abbrev one : ℕ → ℕ → Record
one number time = record_of (scan number time)

-- n records of the sockets n - 1, .., 1, 0, all at time 5.
abbrev full : ℕ → List Record
full zero = []
full (suc n) = one n 5 ∷ full n

-- A record with a place of n bytes.
abbrev placed : ℕ → Record
placed n = record { number = 7; place = replicate 31 65; length = n; time = 5 }

abbrev two : List Record
two = one 7 5 ∷ one 9 5 ∷ blank ∷ []

-- Strictly later replaces; equal and earlier are late; a new socket goes after the last, or finds the book full.
fates : (fate_in two 2 (one 7 6) ≡ Replaces) × ((fate_in two 2 (one 7 5) ≡ Late) × ((fate_in two 2 (one 7 4) ≡ Late) × ((fate_in two 2 (one 8 0) ≡ Adds) × (fate_in two 3 (one 8 0) ≡ Full))))
unfolding booked fated
fates = (refl, (refl, (refl, (refl, refl))))

-- What each of them leaves.
books : (book_after two 2 (one 9 6) ≡ one 7 5 ∷ one 9 6 ∷ blank ∷ []) × ((book_after two 2 (one 9 5) ≡ two) × ((book_after two 2 (one 8 0) ≡ one 7 5 ∷ one 9 5 ∷ one 8 0 ∷ []) × (book_after two 3 (one 8 0) ≡ two)))
unfolding booked fated
books = (refl, (refl, (refl, refl)))

counts : (count_after two 2 (one 9 6) ≡ 2) × ((count_after two 2 (one 9 5) ≡ 2) × ((count_after two 2 (one 8 0) ≡ 3) × (count_after two 3 (one 8 0) ≡ 3)))
unfolding booked fated
counts = (refl, (refl, (refl, refl)))

-- A book of 64: a later scan of socket 3 replaces, a new socket finds no room, and the 65th lent record goes unused.
in_full : (fate_in (full 64) 64 (one 3 6) ≡ Replaces) × ((fate_in (full 64) 64 (one 64 6) ≡ Full) × (fate_in (full 65) 64 (one 90 6) ≡ Full))
unfolding booked fated
in_full = (refl, (refl, refl))

-- The count: 3 of 3, past its room; 64 of 64, of 65 and of 100; 65 of 100; 0 of 0.
rooms : (is_sound (full 3) 3 ≡ true) × ((is_sound (full 3) 4 ≡ false) × ((is_sound (full 64) 64 ≡ true) × ((is_sound (full 65) 64 ≡ true) × ((is_sound (full 100) 65 ≡ false) × (is_sound [] 0 ≡ true)))))
unfolding booked fated
rooms = (refl, (refl, (refl, (refl, (refl, refl)))))

-- A socket twice, among those that count and past them.
twice : (is_sound (one 7 5 ∷ one 9 5 ∷ one 7 6 ∷ []) 3 ≡ false) × (is_sound (one 7 5 ∷ one 9 5 ∷ one 7 6 ∷ []) 2 ≡ true)
unfolding booked fated
twice = (refl, refl)

-- A length of 0, 1, 31 and 32.
lengths : (is_sound (placed 0 ∷ []) 1 ≡ false) × ((is_sound (placed 1 ∷ []) 1 ≡ true) × ((is_sound (placed 31 ∷ []) 1 ≡ true) × (is_sound (placed 32 ∷ []) 1 ≡ false)))
unfolding booked fated
lengths = (refl, (refl, (refl, refl)))

-- The greatest number and time, and one more.
greatests : (is_sound (one 2147483647 2147483647 ∷ []) 1 ≡ true) × ((is_sound (one 2147483648 5 ∷ []) 1 ≡ false) × (is_sound (one 7 2147483648 ∷ []) 1 ≡ false))
unfolding booked fated
greatests = (refl, (refl, refl))

-- Bytes past the length are written 0 and never read.
zeros : ((one 7 5).place ≡ 65 ∷ 49 ∷ replicate 29 0) × ((length (one 7 5).place ≡ 31) × (said 7 (placed 2 ∷ []) 1 ≡ some (record { number = 7; place = 65 ∷ 65 ∷ []; time = 5 })))
unfolding booked fated
zeros = (refl, (refl, refl))

-- What a book says of a socket that is in it, and of one that is not, past the count too.
says : (said 9 two 2 ≡ some (scan 9 5)) × ((said 8 two 2 ≡ none) × (said 9 two 1 ≡ none))
unfolding booked fated
says = (refl, (refl, refl))
