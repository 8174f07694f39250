-- The errors of a step, and their names in the paper (02, W10).
-- Assumes nothing.
use Rattle.std.specs.Prelude.{List, ℕ}
use Rattle.semantics.specs.Text.{bytes}
use Rattle.semantics.specs.Values.{Attempt}
use Rattle.forf_semantics.specs.declared.Error.{Error}
use Rattle.forf_semantics.specs.declared.Error.TheVariants.{SyntaxError, Undefined, StackUnderflow, TypeCheck, RangeCheck, UndefinedResult, ExecStackOverflow, StackOverflow}

-- What there is, or an error.
abbrev pub Result : Type 0 → Type 0
Result A = Attempt Error A

-- The paper's name of each error.
unfoldable pub error_text : Error → List ℕ
error_text SyntaxError = bytes "syntaxerror"
error_text Undefined = bytes "undefined"
error_text StackUnderflow = bytes "stackunderflow"
error_text TypeCheck = bytes "typecheck"
error_text RangeCheck = bytes "rangecheck"
error_text UndefinedResult = bytes "undefinedresult"
error_text ExecStackOverflow = bytes "execstackoverflow"
error_text StackOverflow = bytes "stackoverflow"

-- Opens every definition of this file.
unfoldable pub errors : Unit {0}
unfolding error_text
errors = tt
