-- Tokens (01, Tokens; 02, W4). `lex` reads the bytes that are left of a script, after the space and comment that `blanks` counts. `at` is always
-- the offset in the script of the first byte that is left: a fault names the first byte that could not be accepted, limits aside.
-- Assumes nothing.
use Rattle.std.specs.Prelude.{Bool, true, false, not, ◌&&◌, ◌||◌, cond, List, [], ◌∷◌, ℕ, zero, suc, ◌+◌, ◌-◌, ◌*◌, ◌^◌, pos, neg_ℤ, length, take, drop, leb, ltb, eqb}
use Rattle.semantics.specs.Sizes.{name_most}
use Rattle.semantics.specs.Words.{word}
use Rattle.semantics.specs.Values.{Attempt, ok, fault, ◌>>=◌, check}
use Rattle.semantics.specs.declared.Fault.{Fault}
use Rattle.semantics.specs.declared.Fault.TheVariants.{BadNumber, BadEscape, OpenString, BadByte, OverLimit}

-- What is read, or what is wrong with the token.
abbrev pub Lexing : Type 0 → Type 0
Lexing A = Attempt Fault A

-- ---- bytes

abbrev pub within : ℕ → ℕ → ℕ → Bool
within a b x = leb a x && leb x b

-- LF and CR
abbrev pub is_break : ℕ → Bool
is_break b = eqb b 10 || eqb b 13

-- tab, LF, CR and blank
abbrev pub is_space : ℕ → Bool
is_space b = eqb b 9 || is_break b || eqb b 32

abbrev pub is_digit : ℕ → Bool
is_digit b = within 48 57 b

abbrev pub is_octal : ℕ → Bool
is_octal b = within 48 55 b

-- 33 to 126 without [ ] { } " # /
abbrev pub is_name_byte : ℕ → Bool
is_name_byte b = within 33 126 b && not (eqb b 91 || eqb b 93 || eqb b 123 || eqb b 125 || eqb b 34 || eqb b 35 || eqb b 47)

-- What a token's first byte begins.
pub data Class : Type 0 where
  name_byte bracket open_brace close_brace quote slash other : Class

unfoldable pub class_of : ℕ → Class
class_of b =
    cond (is_name_byte b) name_byte
    (cond (eqb b 91 || eqb b 93) bracket
    (cond (eqb b 123) open_brace (cond (eqb b 125) close_brace (cond (eqb b 34) quote (cond (eqb b 47) slash other)))))

-- ---- space and comment

-- A byte of space or comment; # begins a comment, which ends before CR or LF (R29).
unfoldable pub is_blank : Bool → ℕ → Bool
is_blank inComment b = inComment || is_space b || eqb b 35

-- Whether the byte after b is in a comment.
unfoldable pub comment_after : Bool → ℕ → Bool
comment_after true b = not (is_break b)
comment_after false b = eqb b 35

unfoldable pub blanks_in : Bool → List ℕ → ℕ
blanks_in inComment [] = 0
blanks_in inComment (b ∷ s) =
    elim (is_blank inComment b) [ true ↦ suc (blanks_in (comment_after inComment b) s) | false ↦ 0 ]

-- How many bytes of space and comment come first.
unfoldable pub blanks : List ℕ → ℕ
blanks s = blanks_in false s

-- How many name bytes come first: a run is taken as long as it goes (R18).
unfoldable pub run : List ℕ → ℕ
run [] = 0
run (b ∷ s) = elim (is_name_byte b) [ true ↦ suc (run s) | false ↦ 0 ]

-- ---- numbers

-- A digit's value; 16 where it is none.
unfoldable pub digit : ℕ → ℕ
digit b = cond (is_digit b) (b - 48) (cond (within 97 102 b) (b - 87) (cond (within 65 70 b) (b - 55) 16))

unfoldable pub digits_from : ℕ → ℕ → ℕ → List ℕ → Lexing ℕ
digits_from base at n [] = ok n
digits_from base at n (b ∷ s) =
    elim (ltb (digit b) base) [ true ↦ digits_from base (suc at) (n * base + digit b) s | false ↦ fault (BadNumber at) ]

-- The number that one or more digits write; a run that begins as a number must be one (R19). Leading zeros do not count (R22).
unfoldable pub digits : ℕ → ℕ → List ℕ → Lexing ℕ
digits base at [] = fault (BadNumber at)
digits base at (b ∷ s) = digits_from base at 0 (b ∷ s)

-- A digit, or - and a digit; `-`, `-x` and `+5` are names (R21).
unfoldable pub starts_number : List ℕ → Bool
starts_number [] = false
starts_number (b ∷ []) = is_digit b
starts_number (b ∷ c ∷ s) = is_digit b || (eqb b 45 && is_digit c)

-- n where it is at most the limit, else limitcheck: form is judged before size (R22).
unfoldable pub up_to : ℕ → ℕ → Lexing ℕ
up_to limit n = do
  _ ← check (leb n limit) OverLimit
  ok n

-- -12, 0xC, 12; 0X1F is none of them (R20)
pub data Form : Type 0 where
  negative hexadecimal plain : Form

unfoldable pub form_of : List ℕ → Form
form_of [] = plain
form_of (b ∷ []) = plain
form_of (b ∷ c ∷ s) = cond (eqb b 45) negative (cond (eqb b 48 && eqb c 120) hexadecimal plain)

-- The 32 bits of a run of name bytes that starts as a number does.
unfoldable pub number : ℕ → List ℕ → Lexing ℕ
number at s =
    elim (form_of s) [
      | negative ↦ digits 10 (at + 1) (drop 1 s) >>= λ n. up_to (2 ^ 31) n >>= λ m. ok (word (neg_ℤ (pos m)))
      | hexadecimal ↦ digits 16 (at + 2) (drop 2 s) >>= up_to (2 ^ 32 - 1)
      | plain ↦ digits 10 at s >>= up_to (2 ^ 31 - 1)
    ]

-- ---- strings

-- What the reading of a string has just met: nothing, a backslash, a backslash and CR, or a backslash and some octal digits (how many
-- are to come, and the value of those met).
pub data Met : Type 0 where
  nothing backslash return : Met
  octal : ℕ → ℕ → Met

-- What the next byte does.
pub data Act : Type 0 where
  byte : ℕ → Act  -- this is the string's next byte
  go : Met → Act
  close : Act
  cut : Act  -- a line break ends the string too early
  bad : Act  -- no escape goes on so

-- Outside an escape: a quote closes, a line break cuts, and each byte but the backslash stands for itself, byte 0 too (R28).
unfoldable pub plain_act : ℕ → Act
plain_act b = cond (eqb b 34) close (cond (eqb b 92) (go backslash) (cond (is_break b) cut (byte b)))

-- After an octal digit that is not the first: exactly three (R26).
unfoldable pub octal_act : ℕ → ℕ → Act
octal_act zero v = byte v
octal_act (suc k) v = go (octal (suc k) v)

-- \n, \", \NNN, at most 377, and backslash with a line break, which vanishes; CR LF is one break (R27). \\ is no escape (R25). In the middle of \NNN a
-- line break cuts the string (W4.4).
unfoldable pub act : Met → ℕ → Act
act nothing b = plain_act b
act backslash b =
    cond (eqb b 110) (byte 10)
    (cond (eqb b 34) (byte 34)
    (cond (eqb b 13) (go return)
    (cond (eqb b 10) (go nothing) (cond (within 48 51 b) (go (octal 2 (b - 48))) bad))))
act return b = cond (eqb b 10) (go nothing) (plain_act b)
act (octal k v) b = cond (is_octal b) (octal_act (k - 1) (v * 8 + (b - 48))) (cond (is_break b) cut bad)

-- A string's bytes, and how many bytes of the script it takes with its closing quote.
pub record Quoted : Type 0 where
  pub contents : List ℕ
  pub taken : ℕ

-- The string from an act on, given its reading after what was met. Its opening quote is at `start`, the byte that acts at `at`.
unfoldable pub quoted_on : ℕ → ℕ → (Met → Lexing Quoted) → Act → Lexing Quoted
quoted_on start at rest (byte c) = do
  q ← rest nothing
  ok (record { contents = c ∷ q.contents; taken = suc q.taken })
quoted_on start at rest (go met) = do
  q ← rest met
  ok (record { contents = q.contents; taken = suc q.taken })
quoted_on start at rest close = ok (record { contents = []; taken = 1 })
quoted_on start at rest cut = fault (OpenString start)
quoted_on start at rest bad = fault (BadEscape at)

unfoldable pub quoted : ℕ → ℕ → Met → List ℕ → Lexing Quoted
quoted start at met [] = fault (OpenString start)
quoted start at met (b ∷ s) = quoted_on start at (λ next. quoted start (suc at) next s) (act met b)

-- ---- tokens

pub data Token : Type 0 where
  integer : ℕ → Token  -- its 32 bits
  string : List ℕ → Token  -- its bytes, escapes read
  name : Bool → List ℕ → Token  -- executable or not
  open_brace close_brace end : Token

-- A token, and how many bytes it takes.
pub record Lexeme : Type 0 where
  pub token : Token
  pub size : ℕ

unfoldable pub lexeme : Token → ℕ → Lexing Lexeme
lexeme t n = ok (record { token = t; size = n })

-- Names have at most 31 bytes, without the slash, else limitcheck (R24).
unfoldable pub name_of : Bool → List ℕ → Lexing Token
name_of executable n = do
  _ ← check (leb (length n) name_most) OverLimit
  ok (name executable n)

-- A run of name bytes: a number, which must be a whole one, or an executable name.
unfoldable pub run_token : ℕ → List ℕ → Lexing Token
run_token at n =
    elim (starts_number n) [
      | true ↦ number at n >>= λ w. ok (integer w)
      | false ↦ name_of true n
    ]

-- The byte that begins a number for certain: a digit, or the digit after a minus sign.
unfoldable pub signs : List ℕ → ℕ
signs [] = 0
signs (b ∷ s) = cond (is_digit b) 0 1

-- What follows a slash: a name byte, and not a number's beginning, judged before the length (R23).
unfoldable pub slash_token : ℕ → List ℕ → Lexing Token
slash_token at n =
    elim (eqb (length n) 0 || starts_number n) [
      | true ↦ fault (BadByte (at + signs n))
      | false ↦ name_of false n
    ]

-- The token that begins with the byte b of a class, s being the bytes after it.
unfoldable pub lex_as : Class → ℕ → ℕ → List ℕ → Lexing Lexeme
lex_as name_byte at b s = do
  let n = take (run (b ∷ s)) (b ∷ s)
  t ← run_token at n
  lexeme t (length n)
lex_as bracket at b s = lexeme (name true (b ∷ [])) 1
lex_as open_brace at b s = lexeme open_brace 1
lex_as close_brace at b s = lexeme close_brace 1
lex_as quote at b s = do
  q ← quoted at (suc at) nothing s
  lexeme (string q.contents) (suc q.taken)
lex_as slash at b s = do
  let n = take (run s) s
  t ← slash_token (suc at) n
  lexeme t (suc (length n))
lex_as other at b s = fault (BadByte at)

-- The token that begins at the first byte, which is neither space nor comment.
unfoldable pub lex : ℕ → List ℕ → Lexing Lexeme
lex at [] = lexeme end 0
lex at (b ∷ s) = lex_as (class_of b) at b s

-- Opens every definition of this file.
unfoldable pub tokens : Unit {0}
unfolding class_of is_blank comment_after blanks_in blanks run digit digits_from digits starts_number up_to form_of number plain_act octal_act act quoted_on quoted lexeme name_of run_token signs slash_token lex_as lex
tokens = tt
