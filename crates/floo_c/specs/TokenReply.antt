-- The token reading's whole answer as a struct for C: faults and kinds by numbers, the token's own bytes by their offset and size (01, Setup).
-- Assumes nothing.
use Rattle.std.specs.Prelude.{ℕ}
use Rattle.semantics.specs.Setup as setup
use Rattle.semantics.specs.declared.Fault.{Fault}
use Rattle.semantics.specs.declared.Fault.TheVariants.{BadNumber, BadEscape, OpenString, BadBrace, BadByte, OverLimit}
use Rattle.semantics.specs.declared.Kind.{Kind}
use Rattle.semantics.specs.declared.Kind.TheVariants.{Integer, String, LiteralName, ExecutableName, OpenBrace, CloseBrace, End}
use Rattle.floo_c.specs.declared.TokenReply.{TokenReply}

-- The number of each fault, with its name in the paper (`fault_text`). No fault has the number 0. 1 was syntaxerror.
abbrev pub number_of : Fault → ℕ
number_of (BadNumber at) = 13  -- badnumber
number_of (BadEscape at) = 14  -- badescape
number_of (OpenString at) = 15  -- openstring
number_of (BadBrace at) = 16  -- badbrace
number_of (BadByte at) = 17  -- badbyte
number_of OverLimit = 2  -- limitcheck

-- The offset of the first byte that could not be accepted; 0 for a limit.
abbrev pub place_of : Fault → ℕ
place_of (BadNumber at) = at
place_of (BadEscape at) = at
place_of (OpenString at) = at
place_of (BadBrace at) = at
place_of (BadByte at) = at
place_of OverLimit = 0

-- The number of each kind, with its words in the paper (`kind_text`). No kind has the number 0.
abbrev pub kind_number : Kind → ℕ
kind_number Integer = 1  -- integer
kind_number String = 2  -- string
kind_number LiteralName = 3  -- literal name
kind_number ExecutableName = 4  -- executable name
kind_number OpenBrace = 5  -- open brace
kind_number CloseBrace = 6  -- close brace
kind_number End = 7  -- end

-- Which of the first three numbers is not 0 tells a refusal, a fault and a token apart. Where there is no token, the offset after is the one given.
abbrev pub token_reply_of : ℕ → setup.Reading → TokenReply
token_reply_of offset (setup.refused n) = record { refused = n; fault = 0; kind = 0; place = 0; next = offset; start = 0; size = 0 }
token_reply_of offset (setup.faulty f) = record { refused = 0; fault = number_of f; kind = 0; place = place_of f; next = offset; start = 0; size = 0 }
token_reply_of offset (setup.read k n start size) = record { refused = 0; fault = 0; kind = kind_number k; place = 0; next = n; start = start; size = size }
