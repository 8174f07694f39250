-- What the public token reading answers: the paper's number or error, the kind and the offset after, and the token's own part (01, Setup; 02, W10).
-- Assumes nothing.
use Rattle.std.specs.Prelude.{◌≡◌, List, [], ℕ, ◌+◌, ◌-◌, ◌≤◌, length, take, drop, Result, Ok, Err}
use Rattle.forf_semantics.specs.Errors.{error_text}
use Rattle.forf_semantics.specs.Setup.{kind_text}
use Rattle.forf_semantics.specs.Setup as setup
use Rattle.forf_semantics.specs.declared.Error.TheVariants.{SyntaxError}
use Rattle.forf_token.specs.declared.SyntaxError.{SyntaxError as Bad}
use Rattle.forf_semantics.specs.declared.Kind.{Kind}
use Rattle.forf_semantics.specs.declared.Kind.TheVariants as kind
use Rattle.token.specs.declared.Refused.{Refused}
use Rattle.token.specs.declared.Refused.TheVariants.{TooLong, PastEnd, Faulty}
use Rattle.token.specs.declared.Located.{Located}
use Rattle.forf_token.specs.declared.Token.{Token}
use Rattle.forf_token.specs.declared.Token.TheVariants.{Integer, Word, OpenBrace, CloseBrace, End}

-- Refused by its number, faulty by the error's name, or a token by its kind, in the paper's words.
pub data Verdict : Type 0 where
  refused : ℕ → Verdict
  faulty : List ℕ → Verdict
  token : List ℕ → Verdict

-- A verdict, with the offset after: the one given, where it is refused or faulty.
pub record Answer : Type 0 where
  pub verdict : Verdict
  pub next : ℕ

-- What the code's answer means.
abbrev pub answer_of : ℕ → Result (Kind × ℕ) (Refused Bad) → Answer
answer_of offset (Err TooLong) = record { verdict = refused 1; next = offset }
answer_of offset (Err PastEnd) = record { verdict = refused 10; next = offset }
answer_of offset (Err (Faulty e)) = record { verdict = faulty (error_text SyntaxError); next = offset }
answer_of offset (Ok (k, n)) = record { verdict = token (kind_text k); next = n }

-- What the definition's reading says.
abbrev pub answer : ℕ → setup.Reading → Answer
answer offset (setup.refused n) = record { verdict = refused n; next = offset }
answer offset (setup.faulty e) = record { verdict = faulty (error_text e); next = offset }
answer offset (setup.read k n start size) = record { verdict = token (kind_text k); next = n }

-- A token's own bytes; none where there is no token.
abbrev pub part_of : List ℕ → setup.Reading → List ℕ
part_of script (setup.refused n) = []
part_of script (setup.faulty e) = []
part_of script (setup.read k n start size) = take size (drop start script)

-- The whole reading, as the code holds it.
abbrev pub located_is : Result (Located Kind) (Refused Bad) → setup.Reading
located_is (Err TooLong) = setup.refused 1
located_is (Err PastEnd) = setup.refused 10
located_is (Err (Faulty e)) = setup.faulty SyntaxError
located_is (Ok t) = setup.read t.kind t.next t.start t.size

abbrev pub Within : ℕ → Result (Located Kind) (Refused Bad) → Type 0
Within n (Ok t) = t.start + t.size ≤ n
Within n (Err e) = Unit {0}

pub record LocatedAt (script : List ℕ) (offset : ℕ) (r : Result (Located Kind) (Refused Bad)) : Type 0 where
  pub is : located_is r ≡ setup.reading script offset
  pub inside : Within (length script) r

abbrev pub kind_is : Token → Kind
kind_is (Integer w) = kind.Integer
kind_is Word = kind.Word
kind_is OpenBrace = kind.OpenBrace
kind_is CloseBrace = kind.CloseBrace
kind_is End = kind.End

-- A token's kind and own bytes: all from `start` to `next`.
abbrev pub owned_by : ℕ → ℕ → Token → Located Kind
owned_by start next t = record { kind = kind_is t; next = next; start = start; size = next - start }
