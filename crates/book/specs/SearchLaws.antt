-- The search of a record by its number: it finds the first place that has it, and that place is the only such one.
-- Assumes nothing.
use Rattle.std.specs.Prelude.{◌≡◌, List, get_or}
use Prim.Native.Nat.{ℕ, ◌≤◌, ◌<◌}
use Rattle.book.specs.Books.{blank}
use Rattle.book.specs.declared.Record.{Record}

-- The number of the record at a place.
abbrev pub number_at : List Record → ℕ → ℕ
number_at b j = (get_or b j blank).number

-- Of the first n records, p is the place of the first with the number k, or n where none has it.
pub record Place (b : List Record) (n k p : ℕ) : Type 0 where
  pub within : p ≤ n
  pub here : p < n → number_at b p ≡ k
  pub before : (j : ℕ) → j < p → number_at b j ≡ k → ⊥
