-- The offset of what is left of a script, and that of the token last taken, never pass the script's length.
-- Assumes nothing.
use mathlib.Core.List.{List}
use Prim.Native.Nat.{ℕ, ◌≤◌, ◌<◌}
use Rattle.std.specs.Prelude.{length}
use Rattle.forf_semantics.specs.Steps.{State}

-- ---- a token

-- After the offset, and no further than the script's length.
pub record Beyond (size offset after : ℕ) : Type 0 where
  pub later : offset < after
  pub inside : after ≤ size

-- ---- steps and runs

pub record Placed (script : List ℕ) (σ : State) : Type 0 where
  pub next : σ.next ≤ length script
  pub at : σ.at ≤ length script
