-- A log that holds all of an earlier one, in its place, and perhaps more after it.
-- Assumes nothing.
use Rattle.std.specs.Prelude.{◌≡◌, List, ◌++◌, ℕ}

pub record Extends (before after : List ℕ) : Type 0 where
  pub added : List ℕ
  pub whole : after ≡ before ++ added
