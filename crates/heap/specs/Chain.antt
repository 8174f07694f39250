-- Cells on lists. A list is a number: 0 the free cells, 1 the dead headers, h + 2 the body of the header h.
use Rattle.std.specs.Prelude.{ℕ, suc, ◌<◌, ◌≡◌}

-- what a cell is: never used, the header of an object in use, out of every list, or on list s above k cells of it
pub data Owner : Type 0 where
  fresh : Owner
  live : Owner
  out : Owner
  on : ℕ → ℕ → Owner

-- lists by ownership: list s has size s cells, the first is top s, and nxt leads from a cell to the one below
pub record Chains (own : ℕ → Owner) (top size nxt : ℕ → ℕ) : Type 0 where
  pub above : (c s k : ℕ) → own c ≡ on s k → k < size s
  pub link : (c s k : ℕ) → own c ≡ on s (suc k) → own (nxt c) ≡ on s k
  pub first : (s k : ℕ) → size s ≡ suc k → own (top s) ≡ on s k
  pub one : (c d s k : ℕ) → own c ≡ on s k → own d ≡ on s k → c ≡ d
