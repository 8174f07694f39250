-- What ones, lowpeg and highpeg say of the bits, over any width n (02, W5). ones_in is the number of the n lowest bits that are 1 (`ones_counts`). lowest_in is k exactly if bit
-- k is 1 and every lower one 0, highest_in if every higher one is (`lowest_exactly`, `highest_exactly`), and neither has a place exactly for 0 (`lowest_none`, `highest_none`).
-- Assumes nothing.
use Rattle.std.specs.Prelude.{◌≡◌, ℕ, ◌<◌}
use Rattle.std.proofs.Math.Option.{Option, none, some}
use Rattle.semantics.specs.NumberOperators.{bit_of}

-- ---- the lowest and the highest

-- All n lowest bits are 0.
pub record Clear (n w : ℕ) : Type 0 where
  pub clear : (i : ℕ) → i < n → bit_of w i ≡ 0

-- Of the n lowest bits, bit k is 1, and each that comes before it is 0.
pub record First (Before : ℕ → ℕ → Type 0) (n w k : ℕ) : Type 0 where
  pub inside : k < n
  pub set : bit_of w k ≡ 1
  pub clear : (i : ℕ) → i < n → Before i k → bit_of w i ≡ 0

-- From below, and from above.
abbrev pub Lower : ℕ → ℕ → Type 0
Lower i k = i < k

abbrev pub Higher : ℕ → ℕ → Type 0
Higher i k = k < i

abbrev pub Lowest : ℕ → ℕ → ℕ → Type 0
Lowest = First Lower

abbrev pub Highest : ℕ → ℕ → ℕ → Type 0
Highest = First Higher

-- A place is found, or there is none.
pub data Finds (Before : ℕ → ℕ → Type 0) (n w : ℕ) : Option ℕ → Type 0 where
  at : {k : ℕ} → First Before n w k → Finds Before n w (some k)
  nowhere : Clear n w → Finds Before n w none
