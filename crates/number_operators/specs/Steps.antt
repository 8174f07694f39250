-- What an operator on integers or on truth values does, by what the function that it is given answers of their words.
-- Assumes nothing.
use Rattle.std.specs.Prelude.{◌≡◌, Bool, List, ℕ, ◌^◌, ◌<◌, ℤ, Ok, Err}
use Rattle.semantics.specs.Words.{signed}
use Rattle.semantics.specs.Values.{Value, Result, ok, fault}
use Rattle.semantics.specs.Machine as Floo
use Rattle.semantics.specs.Machine.{push}
use Rattle.semantics.specs.NumberOperators.{connective}
use Rattle.store.specs.Rep.{bit}
use Rattle.machine.specs.Operands.{Scalar, on_one, on_two}
use Rattle.machine.specs.Room.{DoesStack}
use Rattle.machine.specs.declared.Machine.{Machine}
use Rattle.machine.specs.Answers.{Did, OneInt}

-- A machine goes on with a value of this tag and the word that is answered, or fails with the error that is.
abbrev pub Leads : (Floo.Machine → Result Floo.Machine) → ℕ → OneInt → Type 0
Leads k t (Ok w) = (v : Value) × Scalar v t w × ((τ : Floo.Machine) → k τ ≡ ok (push v τ))
Leads k t (Err e) = (τ : Floo.Machine) → k τ ≡ fault e

-- Of one integer: whatever operator k the answers `post` are right for, with results of tag t, it is done.
pub record StepsOne (post : ℕ → OneInt → Type 0) (t : ℕ) (m : Machine) (s s' : List ℕ) (r : Did) : Type 0 where
  pub does : (k : ℤ → Floo.Machine → Result Floo.Machine)
      → ((a : ℕ) (w : OneInt) → a < 2 ^ 32 → post a w → Leads (k (signed a)) t w)
      → DoesStack (on_one k) m s s' r

-- Of two.
pub record StepsTwo (post : ℕ → ℕ → OneInt → Type 0) (t : ℕ) (m : Machine) (s s' : List ℕ) (r : Did) : Type 0 where
  pub does : (k : ℤ → ℤ → Floo.Machine → Result Floo.Machine)
      → ((a b : ℕ) (w : OneInt) → a < 2 ^ 32 → b < 2 ^ 32 → post a b w → Leads (k (signed a) (signed b)) t w)
      → DoesStack (on_two k) m s s' r

-- Of two words or two truth values: the connective of any f and g that the answers are right for, on words and on the bits of truth values.
pub record StepsLogical (post : ℕ → ℕ → ℕ → Type 0) (m : Machine) (s s' : List ℕ) (r : Did) : Type 0 where
  pub does : (f : ℕ → ℕ → ℕ) (g : Bool → Bool → Bool)
      → ((a b w : ℕ) → a < 2 ^ 32 → b < 2 ^ 32 → post a b w → w ≡ f a b)
      → ((a b : Bool) → f (bit a) (bit b) ≡ bit (g a b))
      → DoesStack (connective f g) m s s' r
