-- What a token's answer means: the definition's `lex` at its offset.
-- Assumes nothing.
use Rattle.std.specs.Prelude.{◌≡◌, Bool, true, false, List, ℕ, ◌+◌, ◌-◌, ◌<◌, ◌≤◌, length, take, drop, get_or, Result, Ok, Err}
use Rattle.semantics.specs.Sizes.{name_most}
use Rattle.semantics.specs.Values.{fault}
use Rattle.semantics.specs.Tokens.{lex, lexeme, class_of}
use Rattle.semantics.specs.Tokens as tokens
use Rattle.semantics.specs.declared.Fault.{Fault}
use Rattle.token.specs.declared.Token.{Token}
use Rattle.token.specs.declared.Token.TheVariants.{Integer, String, ExecutableName, LiteralName, OpenBrace, CloseBrace, End}
use Rattle.token.specs.Strings.{StringAt}

-- The definition reads the token t at `start`, and `next` is the offset after it.
pub record Lexes (script : List ℕ) (start : ℕ) (t : tokens.Token) (next : ℕ) : Type 0 where
  pub lexes : lex start (drop start script) ≡ lexeme t (next - start)
  pub past : start < next
  pub inside : next ≤ length script

-- A string, whose bytes begin at `at`: it holds `size` of them.
pub record StringToken (script : List ℕ) (start at size next : ℕ) : Type 0 where
  pub bytes : List ℕ
  pub token : Lexes script start (tokens.string bytes) next
  pub own : StringAt script at bytes next
  pub begins : at ≡ start + 1
  pub holds : length bytes ≡ size

-- A name, executable or not, whose bytes are the `size` from `at` on, `before` bytes after its start.
pub record NameToken (script : List ℕ) (start : ℕ) (executable : Bool) (before at size next : ℕ) : Type 0 where
  pub token : Lexes script start (tokens.name executable (take size (drop at script))) next
  pub begins : at ≡ start + before
  pub ends : next ≡ at + size
  pub some : 0 < size
  pub few : size ≤ name_most

-- A brace takes one byte.
pub record BraceToken (script : List ℕ) (start : ℕ) (t : tokens.Token) (next : ℕ) : Type 0 where
  pub token : Lexes script start t next
  pub ends : next ≡ start + 1

-- The end takes none.
pub record EndToken (script : List ℕ) (start next : ℕ) : Type 0 where
  pub lexes : lex start (drop start script) ≡ lexeme tokens.end 0
  pub ends : next ≡ start
  pub last : start ≡ length script

abbrev pub TokenAt : List ℕ → ℕ → ℕ → Token → Type 0
TokenAt script start next (Integer w) = Lexes script start (tokens.integer w) next
TokenAt script start next (String at size) = StringToken script start at size next
TokenAt script start next (ExecutableName at size) = NameToken script start true 0 at size next
TokenAt script start next (LiteralName at size) = NameToken script start false 1 at size next
TokenAt script start next OpenBrace = BraceToken script start tokens.open_brace next
TokenAt script start next CloseBrace = BraceToken script start tokens.close_brace next
TokenAt script start next End = EndToken script start next

abbrev pub LexedAt : List ℕ → ℕ → Result (Token × ℕ) Fault → Type 0
LexedAt script start (Ok (t, next)) = TokenAt script start next t
LexedAt script start (Err f) = lex start (drop start script) ≡ fault f

-- A byte of a class stands at `start`.
pub record ClassAt (script : List ℕ) (start : ℕ) (class : tokens.Class) : Type 0 where
  pub inside : start < length script
  pub is : class_of (get_or script start 0) ≡ class

abbrev pub NameByteAt : List ℕ → ℕ → Type 0
NameByteAt script start = ClassAt script start tokens.name_byte

abbrev pub SlashAt : List ℕ → ℕ → Type 0
SlashAt script start = ClassAt script start tokens.slash

abbrev pub QuoteAt : List ℕ → ℕ → Type 0
QuoteAt script start = ClassAt script start tokens.quote
