-- Where a group ends, by the next token: the reading of a group without its items, which is all that the runner keeps of one.
-- Assumes nothing.
use Rattle.std.specs.Prelude.{List, length}
use Prim.Native.Nat.{ℕ}
use Rattle.semantics.specs.Values.{ok, ◌>>=◌}
use Rattle.forf_semantics.specs.Errors.{Result}
use Rattle.forf_semantics.specs.Items.{Group, read_group}

unfoldable pub end_of : Result Group → Result ℕ
end_of r = r >>= λ g. ok g.after

-- The offset after the closing brace of a group that is read from an offset on.
unfoldable pub group_end : List ℕ → ℕ → ℕ → Result ℕ
group_end script depth offset = end_of (read_group script (length script) depth offset)
