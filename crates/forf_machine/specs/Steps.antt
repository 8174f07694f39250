-- What a word on integers does, by what the function that it is given answers of them.
-- Assumes nothing.
use Rattle.std.specs.Prelude.{◌≡◌, List, ◌∷◌, ℕ, ◌^◌, ◌<◌, drop, Option}
use Rattle.semantics.specs.Values.{ok, ◌>>=◌}
use Rattle.forf_semantics.specs.Errors.{Result}
use Rattle.forf_semantics.specs.Operators.{Operator, unary}
use Rattle.forf_machine.specs.Slots.{Slot}
use Rattle.forf_machine.specs.Rep.{machine_from}
use Rattle.forf_machine.specs.Operands.{two_ints}
use Rattle.forf_machine.specs.Numbers.{quotient_is}
use Rattle.forf_machine.specs.Does.{Acted, OnStack}
use Rattle.forf_machine.specs.declared.Machine.{Machine}

-- An operator that gives g of the two topmost integers, in their place.
pub record TwoShape (f : Operator) (g : ℕ → ℕ → Result ℕ) : Type 0 where
  pub gives : (script : List ℕ) (vs fs : List Slot) (mem : List ℕ)
      → f (machine_from script vs fs mem) ≡ (two_ints vs >>= λ (t : ℕ × ℕ). g t.0 t.1 >>= λ w. ok (machine_from script ((0, w) ∷ drop 2 vs) fs mem))

-- Of one integer: whatever f the answers `post` are, the operator of f is done.
pub record StepsOne (post : ℕ → ℕ → Type 0) (m : Machine) (s s' : List ℕ) (r : Acted) : Type 0 where
  pub does : (f : ℕ → ℕ) → ((a w : ℕ) → a < 2 ^ 32 → post a w → w ≡ f a) → OnStack (unary f) m s s' r

-- Of two, of which there may be no result.
pub record StepsTwo (post : ℕ → ℕ → Option ℕ → Type 0) (m : Machine) (s s' : List ℕ) (r : Acted) : Type 0 where
  pub does : (f : Operator) (g : ℕ → ℕ → Result ℕ) → TwoShape f g
      → ((b a : ℕ) (q : Option ℕ) → b < 2 ^ 32 → a < 2 ^ 32 → post b a q → quotient_is q ≡ g b a)
      → OnStack f m s s' r
