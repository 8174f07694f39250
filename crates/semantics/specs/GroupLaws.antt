-- A brace group never takes more than the script has, and the fuel of its reading is never spent: any fuel above the bytes that are left
-- gives the same answer. Each token read takes at least a byte.
-- Assumes nothing.
use Prim.Native.Nat.{ℕ, ◌≤◌, ◌<◌}
use Rattle.semantics.specs.Groups.{Taken}

-- After the offset, and no further than the script's length.
abbrev pub Inside : ℕ → ℕ → Taken → Type 0
Inside size offset t = (offset < t.after) × (t.after ≤ size)
