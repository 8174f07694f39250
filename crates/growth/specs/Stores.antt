-- Machines that have lost no object and no mark for read only.
-- Assumes nothing.
use Rattle.std.specs.Prelude.{ℕ, ◌≤◌, ◌<◌}
use Rattle.semantics.specs.Machine.{Machine, object, made}
use Rattle.semantics.specs.HeldLaws.{◌∈◌}
use Rattle.walk.specs.Objects.{Alike}

-- Each object is there at its place, and perhaps there are more after them; what had the mark for read only has it.
pub record Remains (before after : Machine) : Type 0 where
  pub long : made before ≤ made after
  pub each : (i : ℕ) → i < made before → Alike (object before i) (object after i)
  pub marked : (i : ℕ) → i ∈ before.read_only → i ∈ after.read_only
