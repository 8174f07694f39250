-- The reading computes: six cells with an array of two elements, a free cell that was a header once, and two cells never used.
-- Assumes nothing.
use mathlib.Core.Path.{◌≡◌, refl}
use mathlib.Core.List.{List, [], ◌∷◌}
use Prim.Native.Nat.{ℕ}
use Rattle.heap.specs.Word.{word}
use Rattle.heap.specs.Reading.{free_cells, occupied, headers, cells_of, count_of, kind_of, reading}
use Rattle.heap.specs.declared.Lists.{Lists}

abbrev lists : Lists
lists = record { free = 3; listed = 1; edge = 4; work = 0; dead = 0 }

abbrev words : List ℕ
words = 0 ∷ 2 ∷ 1 ∷ 0x8000_0002 ∷ 0 ∷ 0 ∷ 7 ∷ 0 ∷ 1 ∷ 5 ∷ 1 ∷ 1 ∷ 9 ∷ 9 ∷ 9 ∷ 0x8000_0009 ∷ 9 ∷ 9 ∷ 9 ∷ 9 ∷ 9 ∷ 9 ∷ 9 ∷ 0x8000_0009 ∷ []

case : (free_cells lists words ≡ 3 ∷ 4 ∷ 5 ∷ []) × (occupied lists words ≡ 0 ∷ 1 ∷ 2 ∷ []) × (headers lists words ≡ 0 ∷ []) × (cells_of words 0 ≡ 0 ∷ 2 ∷ 1 ∷ [])
    × (count_of words 0 ≡ 1) × (kind_of words 0 ≡ 0)
unfolding reading word
case = (refl, refl, refl, refl, refl, refl)
