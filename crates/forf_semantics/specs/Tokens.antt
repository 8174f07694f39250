-- Tokens (02, W10; 002, Integers and Comments). `lex` reads the bytes that are left of a script, after the space and comments that `blanks`
-- counts. A token is a brace, or the longest run of bytes that are not space, brace or parenthesis.
-- Assumes nothing.
use Rattle.std.specs.Prelude.{Bool, true, false, not, ◌&&◌, ◌||◌, cond, List, [], ◌∷◌, ℕ, suc, ◌-◌, ◌^◌, pos, neg_ℤ, length, take, drop, leb, eqb}
use Rattle.semantics.specs.Sizes.{name_most}
use Rattle.semantics.specs.Words as words
use Rattle.semantics.specs.Tokens.{Lexing, is_space, digits, starts_number}
use Rattle.semantics.specs.Values.{ok, fault, ◌>>=◌, check}
use Rattle.forf_semantics.specs.Errors.{Result}
use Rattle.forf_semantics.specs.declared.Error.TheVariants.{SyntaxError}

-- ---- bytes

-- ( and )
abbrev pub is_parenthesis : ℕ → Bool
is_parenthesis b = eqb b 40 || eqb b 41

-- Space, a brace or a parenthesis: what ends a token.
abbrev pub is_end : ℕ → Bool
is_end b = is_space b || eqb b 123 || eqb b 125 || is_parenthesis b

-- What a token's first byte begins. No token begins with a parenthesis: a comment's are not met here.
pub data Class : Type 0 where
  run_byte open_brace close_brace other : Class

unfoldable pub class_of : ℕ → Class
class_of b = cond (not (is_end b)) run_byte (cond (eqb b 123) open_brace (cond (eqb b 125) close_brace other))

-- ---- space and comments

-- Whether a closing parenthesis is ahead.
unfoldable pub closes : List ℕ → Bool
closes [] = false
closes (b ∷ s) = elim (eqb b 41) [ true ↦ true | false ↦ closes s ]

-- A byte of space or comment, s being the bytes after it. An open parenthesis that is never closed begins no comment.
unfoldable pub is_blank : Bool → ℕ → List ℕ → Bool
is_blank inComment b s = inComment || is_space b || (eqb b 40 && closes s)

-- Whether the byte after b is in a comment. Comments do not nest: the next closing parenthesis ends one.
unfoldable pub comment_after : Bool → ℕ → Bool
comment_after true b = not (eqb b 41)
comment_after false b = eqb b 40

unfoldable pub blanks_in : Bool → List ℕ → ℕ
blanks_in inComment [] = 0
blanks_in inComment (b ∷ s) =
    elim (is_blank inComment b s) [ true ↦ suc (blanks_in (comment_after inComment b) s) | false ↦ 0 ]

-- How many bytes of space and comment come first.
unfoldable pub blanks : List ℕ → ℕ
blanks s = blanks_in false s

-- How many bytes come before the first that ends a token.
unfoldable pub run : List ℕ → ℕ
run [] = 0
run (b ∷ s) = elim (is_end b) [ true ↦ 0 | false ↦ suc (run s) ]

-- ---- integers

-- 0xC, 014, 12
pub data Form : Type 0 where
  hexadecimal octal plain : Form

unfoldable pub form_of : List ℕ → Form
form_of [] = plain
form_of (b ∷ []) = plain
form_of (b ∷ c ∷ s) = cond (eqb b 48) (cond (eqb c 120) hexadecimal octal) plain

-- Floo's number of one or more digits; what is none is a syntaxerror.
unfoldable pub numeral : Lexing ℕ → Result ℕ
numeral (ok n) = ok n
numeral (fault e) = fault SyntaxError

-- The number that a run without its sign writes.
unfoldable pub magnitude : List ℕ → Result ℕ
magnitude s =
    elim (form_of s) [
      | hexadecimal ↦ numeral (digits 16 0 (drop 2 s))
      | octal ↦ numeral (digits 8 0 (drop 1 s))
      | plain ↦ numeral (digits 10 0 s)
    ]

-- n where it is at most the limit, else syntaxerror.
unfoldable pub up_to : ℕ → ℕ → Result ℕ
up_to limit n = do
  _ ← check (leb n limit) SyntaxError
  ok n

unfoldable pub is_negative : List ℕ → Bool
is_negative [] = false
is_negative (b ∷ s) = eqb b 45

-- The 32 bits of a run that starts as a number does: from -2147483648 to 2147483647.
unfoldable pub number : List ℕ → Result ℕ
number s =
    elim (is_negative s) [
      | true ↦ magnitude (drop 1 s) >>= λ n. up_to (2 ^ 31) n >>= λ m. ok (words.word (neg_ℤ (pos m)))
      | false ↦ magnitude s >>= up_to (2 ^ 31 - 1)
    ]

-- ---- tokens

pub data Token : Type 0 where
  integer : ℕ → Token  -- its 32 bits
  word : List ℕ → Token
  open_brace close_brace end : Token

-- A token, and how many bytes it takes.
pub record Lexeme : Type 0 where
  pub token : Token
  pub size : ℕ

unfoldable pub lexeme : Token → ℕ → Result Lexeme
lexeme t n = ok (record { token = t; size = n })

-- Words have at most 31 bytes, else syntaxerror.
unfoldable pub word_of : List ℕ → Result Token
word_of n = do
  _ ← check (leb (length n) name_most) SyntaxError
  ok (word n)

-- A run: a number, which must be a whole one, where it starts as Floo's integers do, else a word.
unfoldable pub run_token : List ℕ → Result Token
run_token n =
    elim (starts_number n) [
      | true ↦ number n >>= λ w. ok (integer w)
      | false ↦ word_of n
    ]

-- The token that begins with the byte b of a class, s being the bytes after it.
unfoldable pub lex_as : Class → ℕ → List ℕ → Result Lexeme
lex_as run_byte b s = do
  let n = take (run (b ∷ s)) (b ∷ s)
  t ← run_token n
  lexeme t (length n)
lex_as open_brace b s = lexeme open_brace 1
lex_as close_brace b s = lexeme close_brace 1
lex_as other b s = fault SyntaxError

-- The token that begins at the first byte, which is neither space nor comment.
unfoldable pub lex : List ℕ → Result Lexeme
lex [] = lexeme end 0
lex (b ∷ s) = lex_as (class_of b) b s

-- Opens every definition of this file.
unfoldable pub tokens : Unit {0}
unfolding class_of closes is_blank comment_after blanks_in blanks run form_of numeral magnitude up_to is_negative number lexeme word_of run_token lex_as lex
tokens = tt
