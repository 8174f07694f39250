-- What the public token reading answers: the paper's number, fault or kind, the offset after, and the token's own part (01, Setup; 02, W4).
-- Assumes nothing.
use Rattle.std.specs.Prelude.{◌≡◌, List, [], ℕ, ◌+◌, ◌-◌, ◌<◌, ◌≤◌, length, take, drop, Result, Ok, Err}
use Rattle.semantics.specs.Errors.{fault_text, where_text}
use Rattle.semantics.specs.Setup.{kind_text}
use Rattle.semantics.specs.Setup as setup
use Rattle.semantics.specs.declared.Fault.{Fault}
use Rattle.semantics.specs.declared.Kind.{Kind}
use Rattle.semantics.specs.declared.Kind.TheVariants as kind
use Rattle.token.specs.declared.Token.{Token}
use Rattle.token.specs.declared.Token.TheVariants.{Integer, String, ExecutableName, LiteralName, OpenBrace, CloseBrace, End}
use Rattle.token.specs.declared.Refused.{Refused}
use Rattle.token.specs.declared.Refused.TheVariants.{TooLong, PastEnd, Faulty}
use Rattle.token.specs.declared.Located.{Located}

-- Refused by its number, faulty by the fault's name and the offset of the first byte that could not be accepted, or a token by its kind, in the paper's words.
pub data Verdict : Type 0 where
  refused : ℕ → Verdict
  faulty : List ℕ → List ℕ → Verdict
  token : List ℕ → Verdict

-- A verdict, with the offset after: the one given, where it is refused or faulty.
pub record Answer : Type 0 where
  pub verdict : Verdict
  pub next : ℕ

-- What the code's answer means.
abbrev pub answer_of : ℕ → Result (Kind × ℕ) (Refused Fault) → Answer
answer_of offset (Err TooLong) = record { verdict = refused 1; next = offset }
answer_of offset (Err PastEnd) = record { verdict = refused 10; next = offset }
answer_of offset (Err (Faulty f)) = record { verdict = faulty (fault_text f) (where_text f); next = offset }
answer_of offset (Ok (k, n)) = record { verdict = token (kind_text k); next = n }

-- What the definition's reading says.
abbrev pub answer : ℕ → setup.Reading → Answer
answer offset (setup.refused n) = record { verdict = refused n; next = offset }
answer offset (setup.faulty f) = record { verdict = faulty (fault_text f) (where_text f); next = offset }
answer offset (setup.read k n start size) = record { verdict = token (kind_text k); next = n }

-- A token's own bytes; none where there is no token.
abbrev pub part_of : List ℕ → setup.Reading → List ℕ
part_of script (setup.refused n) = []
part_of script (setup.faulty f) = []
part_of script (setup.read k n start size) = take size (drop start script)

-- The whole reading, as the code holds it.
abbrev pub located_is : Result (Located Kind) (Refused Fault) → setup.Reading
located_is (Err TooLong) = setup.refused 1
located_is (Err PastEnd) = setup.refused 10
located_is (Err (Faulty f)) = setup.faulty f
located_is (Ok t) = setup.read t.kind t.next t.start t.size

abbrev pub Within : ℕ → Result (Located Kind) (Refused Fault) → Type 0
Within n (Ok t) = t.start + t.size ≤ n
Within n (Err e) = Unit {0}

pub record LocatedAt (script : List ℕ) (offset : ℕ) (r : Result (Located Kind) (Refused Fault)) : Type 0 where
  pub is : located_is r ≡ setup.reading script offset
  pub inside : Within (length script) r

-- A token from `start` to `next` has its bytes between the two.
abbrev pub Ordered : ℕ → ℕ → Token → Type 0
Ordered start next (Integer w) = start ≤ next
Ordered start next (String at size) = at < next
Ordered start next (ExecutableName at size) = Unit {0}
Ordered start next (LiteralName at size) = Unit {0}
Ordered start next OpenBrace = Unit {0}
Ordered start next CloseBrace = Unit {0}
Ordered start next End = Unit {0}

-- A token's kind and own bytes.
abbrev pub owned_by : ℕ → ℕ → Token → Located Kind
owned_by start next (Integer w) = record { kind = kind.Integer; next = next; start = start; size = next - start }
owned_by start next (String at size) = record { kind = kind.String; next = next; start = at; size = next - at - 1 }
owned_by start next (ExecutableName at size) = record { kind = kind.ExecutableName; next = next; start = at; size = size }
owned_by start next (LiteralName at size) = record { kind = kind.LiteralName; next = next; start = at; size = size }
owned_by start next OpenBrace = record { kind = kind.OpenBrace; next = next; start = start; size = 1 }
owned_by start next CloseBrace = record { kind = kind.CloseBrace; next = next; start = start; size = 1 }
owned_by start next End = record { kind = kind.End; next = next; start = start; size = 0 }
