-- What the heap's state says by its lists and its words alone (01, Room): "Which cells are free, the rest being occupied, which cells each object
-- there has, and its stored count are read from the runner's own state, by a definition that uses neither held nor which places name which
-- object." A free cell is on the free list or was never used, a header is an occupied cell with the mark, and links lead to its body's cells.
-- Assumes nothing.
use Rattle.std.specs.Prelude.{◌≡◌, Bool, true, false, not, ◌||◌, List, [], ◌∷◌, ◌++◌, ◌⊎◌, ℕ, zero, suc, ◌+◌, ◌-◌, ◌/◌, ◌%◌, ◌<◌, length, T, eqb, leb}
use Rattle.heap.specs.Word.{word}
use Rattle.heap.specs.Shape.{cells, header_mark, first_unit, size_unit}
use Rattle.heap.specs.declared.Lists.{Lists}

-- ---- lists of cells

unfoldable pub member : ℕ → List ℕ → Bool
member c [] = false
member c (d ∷ l) = eqb c d || member c l

infix 50 ◌∈◌
abbrev pub ◌∈◌ : ℕ → List ℕ → Type 0
c ∈ l = T (member c l)

unfoldable pub keep : Bool → ℕ → List ℕ → List ℕ
keep true c l = c ∷ l
keep false c l = l

-- Those that pass the test.
unfoldable pub only : (ℕ → Bool) → List ℕ → List ℕ
only test [] = []
only test (c ∷ l) = keep (test c) c (only test l)

-- c, c + 1, .. , n cells
unfoldable pub from : ℕ → ℕ → List ℕ
from c zero = []
from c (suc n) = c ∷ from (suc c) n

-- n cells from c, each named by word 2 of the one before.
unfoldable pub walk : List ℕ → ℕ → ℕ → List ℕ
walk m zero c = []
walk m (suc n) c = c ∷ walk m n (word m c 2)

unfoldable pub sum_of : (ℕ → ℕ) → List ℕ → ℕ
sum_of f [] = 0
sum_of f (c ∷ l) = f c + sum_of f l

-- ---- which cells are free

unfoldable pub free_cells : Lists → List ℕ → List ℕ
free_cells s m = walk m s.listed s.free ++ from s.edge (cells m - s.edge)

-- The rest, from the lowest up.
unfoldable pub occupied : Lists → List ℕ → List ℕ
occupied s m = only (λ c. not (member c (free_cells s m))) (from 0 (cells m))

-- ---- which objects are there

unfoldable pub is_header : List ℕ → ℕ → Bool
is_header m c = leb header_mark (word m c 3)

-- An object is known by its header.
unfoldable pub headers : Lists → List ℕ → List ℕ
headers s m = only (is_header m) (occupied s m)

-- 0 of an array, and 1 and the maximum of a string.
unfoldable pub kind_of : List ℕ → ℕ → ℕ
kind_of m h = word m h 0

-- How many cells it has besides the header.
unfoldable pub body_size : List ℕ → ℕ → ℕ
body_size m h = word m h 1 % size_unit

-- Whether it is read only (02, W7).
unfoldable pub is_sealed : List ℕ → ℕ → Bool
is_sealed m h = eqb (word m h 1 / size_unit % 2) 1

unfoldable pub count_of : List ℕ → ℕ → ℕ
count_of m h = word m h 2

unfoldable pub cells_of : List ℕ → ℕ → List ℕ
cells_of m h = h ∷ walk m (body_size m h) (word m h 3 % first_unit)

-- Opens every definition of this file.
unfoldable pub reading : Unit {0}
unfolding member keep only from walk sum_of free_cells occupied is_header headers kind_of body_size is_sealed count_of cells_of
reading = tt

-- ---- what a reading is to be

-- No cell stands twice.
unfoldable pub Once : List ℕ → Type 0
Once [] = Unit {0}
Once (c ∷ l) = (c ∈ l → ⊥) × Once l

-- Each object "has its cells .., none shared, together the occupied ones" (01, Room).
pub record Exact (s : Lists) (m : List ℕ) : Type 0 where
  -- the free cells are cells, none listed twice
  pub free : (c : ℕ) → c ∈ free_cells s m → c < cells m
  pub free_once : Once (free_cells s m)
  -- no object is listed twice
  pub headers_once : Once (headers s m)
  -- an object's cells are its header and its body's, occupied cells, none listed twice
  pub sized : (h : ℕ) → h ∈ headers s m → length (cells_of m h) ≡ 1 + body_size m h
  pub taken : (h c : ℕ) → h ∈ headers s m → c ∈ cells_of m h → c ∈ occupied s m
  pub once : (h : ℕ) → h ∈ headers s m → Once (cells_of m h)
  -- none shared
  pub disjoint : (h i c : ℕ) → h ∈ headers s m → i ∈ headers s m → c ∈ cells_of m h → c ∈ cells_of m i → h ≡ i
  pub apart : (h c : ℕ) → h ∈ headers s m → c ∈ cells_of m h → c ∈ free_cells s m → ⊥
  -- together the occupied ones, and with the free ones all
  pub together : (c : ℕ) → c ∈ occupied s m → (h : ℕ) × (h ∈ headers s m) × (c ∈ cells_of m h)
  pub whole : (c : ℕ) → c < cells m → (c ∈ free_cells s m) ⊎ ((h : ℕ) × (h ∈ headers s m) × (c ∈ cells_of m h))
  -- how many are free, and how many there are
  pub room : length (free_cells s m) ≡ s.listed + (cells m - s.edge)
  pub counted : length (free_cells s m) + sum_of (λ h. length (cells_of m h)) (headers s m) ≡ cells m
