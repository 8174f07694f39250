-- Numbers: what the answers mean, and a number with one digit more.
-- Assumes nothing.
use Rattle.std.specs.Prelude.{cond, List, ℕ, ◌+◌, ◌*◌, ltb, Result, Ok, Err}
use Rattle.semantics.specs.Values.{ok, fault, ◌>>=◌}
use Rattle.semantics.specs.Tokens.{Lexing, digits, up_to}
use Rattle.semantics.specs.Tokens as tokens
use Rattle.semantics.specs.declared.Fault.{Fault}
use Rattle.token.specs.declared.numbers.Form.{Form}
use Rattle.token.specs.declared.numbers.Form.TheVariants.{Negative, Hexadecimal, Plain}

abbrev pub form_is : Form → tokens.Form
form_is Negative = tokens.negative
form_is Hexadecimal = tokens.hexadecimal
form_is Plain = tokens.plain

abbrev pub number_is : Result ℕ Fault → Lexing ℕ
number_is (Ok w) = ok w
number_is (Err f) = fault f

-- A number over the limit stays as it is.
unfoldable pub with_digit : ℕ → ℕ → ℕ → ℕ → ℕ
with_digit limit base n d = cond (ltb limit n) n (n * base + d)

-- The number that one or more digits write, at most the limit, the first of them at the offset `at`.
unfoldable pub numeral : ℕ → ℕ → ℕ → List ℕ → Lexing ℕ
numeral base limit at s = digits base at s >>= up_to limit
