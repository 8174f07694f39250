-- The words on two integers: they give one, or have a zero divisor.
-- Assumes nothing.
use Rattle.std.specs.Prelude.{not, ℕ, ℤ, eqb}
use Rattle.semantics.specs.Words.{signed, word}
use Rattle.semantics.specs.Values.{ok, fault, ◌>>=◌, check}
use Rattle.forf_semantics.specs.Errors.{Result}
use Rattle.forf_semantics.specs.declared.Error.TheVariants.{UndefinedResult}
use Rattle.std.specs.Prelude.{Option, Some, None}

unfoldable pub gives : (ℕ → ℕ → ℕ) → ℕ → ℕ → Result ℕ
gives f b a = ok (f b a)

unfoldable pub divided : (ℤ → ℤ → ℤ) → ℕ → ℕ → Result ℕ
divided f b a = do
  _ ← check (not (eqb a 0)) UndefinedResult
  ok (word (f (signed b) (signed a)))

abbrev pub quotient_is : Option ℕ → Result ℕ
quotient_is (Some w) = ok w
quotient_is None = fault UndefinedResult
