-- A group never takes more than the script has, the fuel of its reading is never spent (each token read takes at least a byte), and more
-- depth changes nothing that is read.
-- Assumes nothing.
use Prim.Native.Nat.{ℕ, ◌≤◌, ◌<◌}
use Rattle.forf_semantics.specs.Items.{Group}

-- After the offset, and no further than the script's length.
abbrev pub Inside : ℕ → ℕ → Group → Type 0
Inside size offset g = (offset < g.after) × (g.after ≤ size)
