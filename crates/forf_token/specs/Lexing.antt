-- What a token's answer means: the definition's `lex` at its offset.
-- Assumes nothing.
use Rattle.std.specs.Prelude.{◌≡◌, false, List, ℕ, ◌-◌, ◌<◌, ◌≤◌, length, take, drop, get_or, Result as Reply, Ok, Err}
use Rattle.semantics.specs.Values.{ok, fault, ◌>>=◌}
use Rattle.semantics.specs.Sizes.{script_most}
use Rattle.forf_semantics.specs.Errors.{Result}
use Rattle.forf_semantics.specs.Tokens.{is_end, up_to, lexeme, lex}
use Rattle.forf_semantics.specs.Tokens as tokens
use Rattle.forf_semantics.specs.declared.Error.TheVariants.{SyntaxError}
use Rattle.forf_token.specs.declared.SyntaxError.{SyntaxError as Bad}
use Rattle.forf_token.specs.declared.Token.{Token}
use Rattle.forf_token.specs.declared.Token.TheVariants.{Integer, Word, OpenBrace, CloseBrace, End}

-- ---- numbers

abbrev pub read_number : Reply ℕ Bad → Result ℕ
read_number (Ok w) = ok w
read_number (Err e) = fault SyntaxError

unfoldable pub up_to_limit : ℕ → Result ℕ → Result ℕ
up_to_limit limit r = r >>= up_to limit

-- ---- tokens

-- The definition's token, for one from `start` to `next`.
abbrev pub token_of : List ℕ → ℕ → ℕ → Token → tokens.Token
token_of script start next (Integer w) = tokens.integer w
token_of script start next Word = tokens.word (take (next - start) (drop start script))
token_of script start next OpenBrace = tokens.open_brace
token_of script start next CloseBrace = tokens.close_brace
token_of script start next End = tokens.end

-- The definition reads the token t at `start`, and `next` is the offset after it.
pub record Lexes (script : List ℕ) (start : ℕ) (t : Token) (next : ℕ) : Type 0 where
  pub lexes : lex (drop start script) ≡ lexeme (token_of script start next t) (next - start)
  pub later : start ≤ next
  pub inside : next ≤ length script

abbrev pub LexedAt : List ℕ → ℕ → Reply (Token × ℕ) Bad → Type 0
LexedAt script start (Ok (t, next)) = Lexes script start t next
LexedAt script start (Err e) = lex (drop start script) ≡ fault SyntaxError

-- A byte stands at `start` that ends no token.
pub record RunAt (script : List ℕ) (start : ℕ) : Type 0 where
  pub inside : start < length script
  pub is : is_end (get_or script start 0) ≡ false
  pub short : length script ≤ script_most
