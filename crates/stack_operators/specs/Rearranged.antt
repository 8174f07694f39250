-- What the helpers of copy and roll do to a machine of the definition. Items are counted from the top, from 0.
-- Assumes nothing.
use Rattle.std.specs.Prelude.{List, ◌++◌, reverse, ℕ, ◌-◌, take, drop}
use Rattle.semantics.specs.Values.{Value}
use Rattle.semantics.specs.Machine.{Machine, with_stack}

-- The n topmost items stand twice.
unfoldable pub doubled : ℕ → Machine → Machine
doubled n μ = with_stack (take n μ.stack ++ μ.stack) μ

-- The items from lo up to hi are turned over.
unfoldable pub rev_at : ℕ → ℕ → List Value → List Value
rev_at lo hi l = take lo l ++ (reverse (take (hi - lo) (drop lo l)) ++ drop hi l)

unfoldable pub reversed : ℕ → ℕ → Machine → Machine
reversed lo hi μ = with_stack (rev_at lo hi μ.stack) μ

-- Of the n topmost items the k topmost go below the others.
unfoldable pub roll_at : ℕ → ℕ → List Value → List Value
roll_at n k l = drop k (take n l) ++ take k (take n l) ++ drop n l

unfoldable pub rolled : ℕ → ℕ → Machine → Machine
rolled n k μ = with_stack (roll_at n k μ.stack) μ
