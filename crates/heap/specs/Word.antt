-- A word of a cell, and what one store changes.
use Rattle.std.specs.Prelude.{ℕ, ◌+◌, ◌*◌, ◌<◌, ◌≡◌, List, length, get_or}

-- word w of cell c, four words to a cell
unfoldable pub word : List ℕ → ℕ → ℕ → ℕ
word m c w = get_or m (c * 4 + w) 0

-- m' is m with v at word w of cell c
pub record Put (m : List ℕ) (c w v : ℕ) (m' : List ℕ) : Type 0 where
  pub size : length m' ≡ length m
  pub here : word m' c w ≡ v
  pub there : (d u : ℕ) → u < 4 → (d ≡ c → u ≡ w → ⊥) → word m' d u ≡ word m d u
