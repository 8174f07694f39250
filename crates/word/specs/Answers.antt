-- What idiv and rem answer, as a result of the definition, and what lowest and highest answer.
-- Assumes nothing.
use Rattle.std.specs.Prelude.{ℕ, ℤ, Option, Some, None}
use Rattle.std.proofs.Math.Option as maybe
use Rattle.semantics.specs.Values.{Result, ok, fault, ◌>>=◌}
use Rattle.semantics.specs.NumberOperators.{division}
use Rattle.semantics.specs.Words.{signed, word}
use Rattle.semantics.specs.declared.Error.TheVariants.{UndefinedResult}

abbrev pub quotient_of : Option ℕ → Result ℕ
quotient_of (Some w) = ok w
quotient_of None = fault UndefinedResult

abbrev pub place_of : Option ℕ → maybe.Option ℕ
place_of (Some k) = maybe.some k
place_of None = maybe.none

-- The definition's division of two words, as a word: f is quotZ for idiv and remZ for mod.
unfoldable pub divided_words : (ℤ → ℤ → ℤ) → ℕ → ℕ → Result ℕ
divided_words f a b = do
  q ← division f (signed a) (signed b)
  ok (word q)
