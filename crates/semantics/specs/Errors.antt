-- The paper's names of errors and faults (01, Order within a step; 02, W4, W1 and W7).
-- Assumes nothing.
use Rattle.std.specs.Prelude.{List, [], ◌∷◌, ℕ}
use Rattle.semantics.specs.Text.{bytes, decimal}
use Rattle.semantics.specs.declared.Error.{Error}
use Rattle.semantics.specs.declared.Error.TheVariants.{LimitCheck, Undefined, StackUnderflow, TypeCheck, InvalidAccess, RangeCheck, UndefinedResult, UnmatchedMark, ExecStackOverflow, StackOverflow, VmError, IoError}
use Rattle.semantics.specs.declared.Fault.{Fault}
use Rattle.semantics.specs.declared.Fault.TheVariants.{BadNumber, BadEscape, OpenString, BadBrace, BadByte, OverLimit}

-- The name of each error.
unfoldable pub error_text : Error → List ℕ
error_text LimitCheck = bytes "limitcheck"
error_text Undefined = bytes "undefined"
error_text StackUnderflow = bytes "stackunderflow"
error_text TypeCheck = bytes "typecheck"
error_text InvalidAccess = bytes "invalidaccess"
error_text RangeCheck = bytes "rangecheck"
error_text UndefinedResult = bytes "undefinedresult"
error_text UnmatchedMark = bytes "unmatchedmark"
error_text ExecStackOverflow = bytes "execstackoverflow"
error_text StackOverflow = bytes "stackoverflow"
error_text VmError = bytes "VMerror"
error_text IoError = bytes "ioerror"

-- The name of what is wrong with a token.
unfoldable pub fault_text : Fault → List ℕ
fault_text (BadNumber at) = bytes "badnumber"
fault_text (BadEscape at) = bytes "badescape"
fault_text (OpenString at) = bytes "openstring"
fault_text (BadBrace at) = bytes "badbrace"
fault_text (BadByte at) = bytes "badbyte"
fault_text OverLimit = bytes "limitcheck"

-- Where it is wrong; nothing for a limit.
unfoldable pub where_text : Fault → List ℕ
where_text (BadNumber at) = decimal at
where_text (BadEscape at) = decimal at
where_text (OpenString at) = decimal at
where_text (BadBrace at) = decimal at
where_text (BadByte at) = decimal at
where_text OverLimit = []

-- Every name that an error can have, in the order of 01 and 02, the faults of tokens first: a handler can be set for each (W1.2).
unfoldable pub error_names : List (List ℕ)
error_names =
    bytes "badnumber"
    ∷ bytes "badescape"
    ∷ bytes "openstring"
    ∷ bytes "badbrace"
    ∷ bytes "badbyte"
    ∷ bytes "limitcheck"
    ∷ bytes "undefined"
    ∷ bytes "stackunderflow"
    ∷ bytes "typecheck"
    ∷ bytes "invalidaccess"
    ∷ bytes "rangecheck"
    ∷ bytes "undefinedresult"
    ∷ bytes "unmatchedmark"
    ∷ bytes "execstackoverflow"
    ∷ bytes "stackoverflow"
    ∷ bytes "VMerror"
    ∷ bytes "ioerror"
    ∷ []

-- Opens every definition of this file.
unfoldable pub errors : Unit {0}
unfolding error_text fault_text where_text error_names
errors = tt
