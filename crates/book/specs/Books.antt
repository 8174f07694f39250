-- The book of records (02, W3): what a record says, which books are sound, and what a book says of a socket.
-- Assumes nothing.
use Rattle.std.specs.Prelude.{Bool, true, false, not, ◌&&◌, ◌||◌, cond, List, [], ◌∷◌, ◌++◌, map, ℕ, zero, suc, ◌-◌, ◌≤◌, length, get_or, take, replicate, leb, ltb, eqb}
use Rattle.std.proofs.Math.Option.{Option, none, some}
use Rattle.book.specs.declared.Record.{Record}

-- What a scan says, and what a record says.
pub record Entry : Type 0 where
  pub number : ℕ
  pub place : List ℕ
  pub time : ℕ

-- Numbers and times are at most this.
abbrev pub greatest : ℕ
greatest = 2147483647

-- An entry in range: its number and time, and a place of 1 to 31 bytes.
pub record IsEntry (e : Entry) : Type 0 where
  pub number : e.number ≤ greatest
  pub some_bytes : 1 ≤ length e.place
  pub few_bytes : length e.place ≤ 31
  pub time : e.time ≤ greatest

-- Of the place the first `length` bytes count.
unfoldable pub entry_of : Record → Entry
entry_of r = record { number = r.number; place = take r.length r.place; time = r.time }

-- Place bytes past the length are written 0.
unfoldable pub record_of : Entry → Record
record_of e = record { number = e.number; place = e.place ++ replicate (31 - length e.place) 0; length = length e.place; time = e.time }

-- What stands past the end.
abbrev pub blank : Record
blank = record { number = 0; place = replicate 31 0; length = 0; time = 0 }

-- A book has 64 records at most.
unfoldable pub room_of : ℕ → ℕ
room_of lent = cond (leb lent 64) lent 64

-- A place has 1 to 31 bytes.
unfoldable pub is_place_length : ℕ → Bool
is_place_length n = leb 1 n && leb n 31

-- Number, length and time are in range.
unfoldable pub are_in_range : ℕ → ℕ → ℕ → Bool
are_in_range number length time = leb number greatest && leb time greatest && is_place_length length

-- The same of a record: the place's bytes may have any value.
unfoldable pub in_range : Record → Bool
in_range r = are_in_range r.number r.length r.time

-- All records are in range.
unfoldable pub all_in_range : List Record → Bool
all_in_range [] = true
all_in_range (r ∷ rs) = in_range r && all_in_range rs

-- Whether a number stands in a list.
unfoldable pub is_in : ℕ → List ℕ → Bool
is_in n [] = false
is_in n (k ∷ ks) = eqb n k || is_in n ks

-- No number stands twice.
unfoldable pub once : List ℕ → Bool
once [] = true
once (n ∷ ns) = not (is_in n ns) && once ns

-- The count is within the room, and the first `count` records are in range and have different numbers.
unfoldable pub is_sound : List Record → ℕ → Bool
is_sound book count =
    leb count (room_of (length book)) && all_in_range (take count book) && once (map (λ (r : Record). r.number) (take count book))

-- Of the n records from place i on, the place of the first with this number; the place after them where none has it.
unfoldable pub found_from : List Record → ℕ → ℕ → ℕ → ℕ
found_from book i zero number = i
found_from book i (suc n) number =
    elim (eqb (get_or book i blank).number number) [ true ↦ i | false ↦ found_from book (suc i) n number ]

-- The place of a socket among the first `count` records; the place after the last where it has none.
unfoldable pub place_of : List Record → ℕ → ℕ → ℕ
place_of book count number = found_from book 0 count number

-- What stands at a place, if it is one of the first `count`.
unfoldable pub said_at : List Record → ℕ → ℕ → Option Entry
said_at book count at = cond (ltb at count) (some (entry_of (get_or book at blank))) none

-- What the book says of socket k.
unfoldable pub said : ℕ → List Record → ℕ → Option Entry
said k book count = said_at book count (place_of book count k)

-- Opens every definition of this file.
unfoldable pub booked : Unit {0}
unfolding entry_of record_of room_of is_place_length are_in_range in_range all_in_range is_in once is_sound found_from place_of said_at said
booked = tt
