-- A substack known by an offset: what is read from there. The laws say, by the next token, what its items are, and where its rest is known.
-- Assumes nothing.
use Rattle.std.specs.Prelude.{◌≡◌, List, ℕ, ◌≤◌, length}
use Rattle.semantics.specs.Values.{ok, fault}
use Rattle.forf_semantics.specs.Errors.{Result}
use Rattle.forf_semantics.specs.Items.{Items, none, Group, group_at}

unfoldable pub items_in : Result Group → Items
items_in (ok g) = g.items
items_in (fault e) = none

-- The items that are read from an offset on, up to the closing brace.
unfoldable pub body_at : List ℕ → ℕ → Items
body_at script offset = items_in (group_at script offset)

-- An offset from which a group can be read on, its brace being passed.
pub record Known (script : List ℕ) (offset : ℕ) : Type 0 where
  pub passed : 1 ≤ offset
  pub inside : offset ≤ length script
  pub reads : (g : Group) × (group_at script offset ≡ ok g)
