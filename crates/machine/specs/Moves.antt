-- What the primitives on stack items do to a machine of the definition. Items are counted from the top, from 0.
-- Assumes nothing.
use Rattle.std.specs.Prelude.{Bool, true, false, cond, ◌∷◌, ℕ, eqb, get_or, drop, set}
use Rattle.semantics.specs.Values.{null}
use Rattle.semantics.specs.Machine.{Machine, with_stack}
use Rattle.semantics.specs.TextOperators.{as_executable}

-- The topmost item goes.
unfoldable pub dropped : Machine → Machine
dropped μ = with_stack (drop 1 μ.stack) μ

-- A copy of item i is pushed.
unfoldable pub copied : ℕ → Machine → Machine
copied i μ = with_stack (get_or μ.stack i null ∷ μ.stack) μ

-- Item i gives way to a copy of item j.
unfoldable pub copied_over : ℕ → ℕ → Machine → Machine
copied_over i j μ = with_stack (set μ.stack i (get_or μ.stack j null)) μ

-- Items i and j change places.
unfoldable pub swapped : ℕ → ℕ → Machine → Machine
swapped i j μ = with_stack (set (set μ.stack i (get_or μ.stack j null)) j (get_or μ.stack i null)) μ

-- The topmost item becomes executable or literal, as cvx and cvlit have it.
unfoldable pub retagged : Bool → Machine → Machine
retagged x μ = with_stack (set μ.stack 0 (as_executable x (get_or μ.stack 0 null))) μ

-- The tag that goes with it: 5 and 6 are names, 9 and 10 arrays.
unfoldable pub tag_as : Bool → ℕ → ℕ
tag_as true t = cond (eqb t 5) 6 (cond (eqb t 9) 10 t)
tag_as false t = cond (eqb t 6) 5 (cond (eqb t 10) 9 t)
