-- Strings: the reading machine's states and acts, and what is left of a string at an offset.
-- Assumes nothing.
use Rattle.std.specs.Prelude.{◌≡◌, List, [], ◌∷◌, ◌++◌, ℕ, ◌+◌, ◌*◌, ◌-◌, ◌^◌, ◌<◌, ◌≤◌, length, drop, Option, Some, None, Result, Ok, Err}
use Rattle.semantics.specs.Values.{ok, fault}
use Rattle.semantics.specs.Tokens.{Lexing, Quoted, quoted}
use Rattle.semantics.specs.Tokens as tokens
use Rattle.semantics.specs.declared.Fault.TheVariants.{OpenString, BadEscape}
use Rattle.token.specs.declared.quoted.Met.{Met}
use Rattle.token.specs.declared.quoted.Met.TheVariants.{Nothing, Backslash, Return, Digit, Digits}
use Rattle.token.specs.declared.quoted.Act.{Act}
use Rattle.token.specs.declared.quoted.Act.TheVariants as act
use Rattle.token.specs.declared.quoted.Piece.{Piece}
use Rattle.token.specs.declared.quoted.Piece.TheVariants as piece
use Rattle.token.specs.declared.quoted.StringFault.{StringFault}
use Rattle.token.specs.declared.quoted.StringFault.TheVariants.{Cut, Bad}

abbrev pub met_is : Met → tokens.Met
met_is Nothing = tokens.nothing
met_is Backslash = tokens.backslash
met_is Return = tokens.return
met_is (Digit d) = tokens.octal 2 d
met_is (Digits d e) = tokens.octal 1 (d * 8 + e)

abbrev pub act_is : Act → tokens.Act
act_is (act.Byte b) = tokens.byte b
act_is (act.Go m) = tokens.go (met_is m)
act_is act.Close = tokens.close
act_is act.Cut = tokens.cut
act_is act.Bad = tokens.bad

-- With the digits to come, those that were met write a byte.
abbrev pub Small : tokens.Met → Type 0
Small tokens.nothing = Unit {0}
Small tokens.backslash = Unit {0}
Small tokens.return = Unit {0}
Small (tokens.octal k v) = v * 8 ^ k < 256

-- What a string holds, where its first n bytes of the script gave `bs` and the rest reads as the result says.
unfoldable pub after : List ℕ → ℕ → Lexing Quoted → Lexing Quoted
after bs n (ok q) = ok (record { contents = bs ++ q.contents; taken = n + q.taken })
after bs n (fault f) = fault f

-- At `at`, with no escape open, the rest of a well-formed string: it holds `bs`, and `next` is the offset after its closing quote. Where its opening quote
-- is does not matter here and below.
pub record StringAt (script : List ℕ) (at : ℕ) (bs : List ℕ) (next : ℕ) : Type 0 where
  pub reads : (quote : ℕ) → quoted quote at tokens.nothing (drop at script) ≡ ok (record { contents = bs; taken = next - at })
  pub past : at < next
  pub inside : next ≤ length script

-- The string at `at` begins with `bs`, which the bytes of the script up to `next` write, and goes on there.
pub record Begins (script : List ℕ) (at : ℕ) (bs : List ℕ) (next : ℕ) : Type 0 where
  pub splits : (quote : ℕ) → quoted quote at tokens.nothing (drop at script) ≡ after bs (next - at) (quoted quote next tokens.nothing (drop next script))
  pub past : at < next
  pub inside : next ≤ length script

-- The string is cut short, or no escape goes on with the byte at i.
abbrev pub CutAt : List ℕ → ℕ → Type 0
CutAt script at = (quote : ℕ) → quoted quote at tokens.nothing (drop at script) ≡ fault (OpenString quote)

pub record BadAt (script : List ℕ) (at i : ℕ) : Type 0 where
  pub reads : (quote : ℕ) → quoted quote at tokens.nothing (drop at script) ≡ fault (BadEscape i)
  pub inside : i < length script

abbrev pub PieceAt : List ℕ → ℕ → Result Piece StringFault → Type 0
PieceAt script at (Ok (piece.Byte b next)) = Begins script at (b ∷ []) next
PieceAt script at (Ok (piece.Closed next)) = StringAt script at [] next
PieceAt script at (Err Cut) = CutAt script at
PieceAt script at (Err (Bad i)) = BadAt script at i

abbrev pub JudgedAt : List ℕ → ℕ → Result (ℕ × ℕ) StringFault → Type 0
JudgedAt script at (Ok (size, next)) = (bs : List ℕ) × StringAt script at bs next × (length bs ≡ size)
JudgedAt script at (Err Cut) = CutAt script at
JudgedAt script at (Err (Bad i)) = BadAt script at i

-- Of the bytes `bs` of the string at `at`, whose end is at `last`: the first, with the rest at an offset further on; or there are none.
abbrev pub Gives : List ℕ → ℕ → List ℕ → ℕ → Option (ℕ × ℕ) → Type 0
Gives script at bs last (Some (b, next)) = (rest : List ℕ) × (bs ≡ b ∷ rest) × StringAt script next rest last × (at < next)
Gives script at bs last None = bs ≡ []

abbrev pub Unescapes : List ℕ → ℕ → Option (ℕ × ℕ) → Type 0
Unescapes script at r = (bs : List ℕ) (last : ℕ) → StringAt script at bs last → Gives script at bs last r
