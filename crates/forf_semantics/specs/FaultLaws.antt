-- All that can be wrong with a token or a group is a syntaxerror: so it cannot be seen which fault of a group is met first.
-- Assumes nothing.
use Rattle.semantics.specs.Values.{ok, fault}
use Rattle.forf_semantics.specs.Errors.{Result}
use Rattle.forf_semantics.specs.declared.Error.TheVariants.{SyntaxError}

-- No fault, or a syntaxerror.
pub data Syntax {A : Type 0} : Result A → Type 0 where
  fine : {a : A} → Syntax (ok a)
  bad : Syntax (fault SyntaxError)
