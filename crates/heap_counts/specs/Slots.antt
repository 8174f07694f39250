-- A heap whose root places are slots: a slot holds 0, or the header of the object that it names and 1 more.
-- Assumes nothing.
use Rattle.std.specs.Prelude.{ℕ, ◌+◌, ◌<◌, ◌≡◌, List, length, get_or}
use Rattle.heap.specs.Word.{word}
use Rattle.heap.specs.Chain.{live, on}
use Rattle.heap.specs.Shape.{Ghost, Full, NoOut, cells}
use Rattle.heap.specs.declared.Lists.{Lists}
use Rattle.std.specs.Prelude.{Option, Some, None}

-- the counts are those of the elements and the slots, no object is dead, and each cell is free or of an object
pub record Slots (s : Lists) (slots m : List ℕ) : Type 0 where
  pub ghost : Ghost
  pub full : Full ghost (cells m + length slots) 0 s m
  pub no_out : NoOut ghost
  pub clean : s.dead ≡ 0
  pub named : (k : ℕ) → k < length slots → ghost.aim (cells m + k) ≡ get_or slots k 0

-- the cell of an element of an array that lives
abbrev pub Found : Lists → List ℕ → List ℕ → Option ℕ → Type 0
Found s slots m (Some c) = (D : Slots s slots m) → (a : ℕ) × (k : ℕ) × (D.ghost.own c ≡ on (a + 2) k) × (D.ghost.own a ≡ live) × (word m a 0 ≡ 0)
Found s slots m None = Unit {0}
