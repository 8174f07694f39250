-- What the public operations answer: setup and its refusals, what a run leaves, and the token reading (02, W10; 01, Setup and Outcome).
-- Assumes nothing.
use Rattle.std.specs.Prelude.{true, false, not, cond, List, ℕ, ◌+◌, ◌*◌, ◌/◌, length, drop, ltb, eqb}
use Rattle.semantics.specs.Sizes.{stack_width, exec_width, fuel_most, stack_least, stack_most, exec_least, exec_most, head_room, item_room}
use Rattle.semantics.specs.Text.{bytes, decimal}
use Rattle.semantics.specs.Tokens.{within}
use Rattle.semantics.specs.Outcome.{line}
use Rattle.semantics.specs.Setup.{is_too_long}
use Rattle.semantics.specs.Values.{ok, fault}
use Rattle.forf_semantics.specs.Tokens.{Token, Lexeme, lex}
use Rattle.forf_semantics.specs.Items.{skip}
use Rattle.forf_semantics.specs.Steps.{Limits, run, initial}
use Rattle.forf_semantics.specs.Outcome.{outcome}
use Rattle.forf_semantics.specs.declared.Error.{Error}
use Rattle.forf_semantics.specs.declared.Kind.{Kind}
use Rattle.forf_semantics.specs.declared.Kind.TheVariants.{Integer, Word, OpenBrace, CloseBrace, End}

-- ---- setup

-- What a caller lends beside the memory: the lengths of the two stacks in 32-bit words, and of the outcome in bytes.
pub record Lent : Type 0 where
  pub stack_words : ℕ
  pub exec_words : ℕ
  pub outcome_bytes : ℕ

-- 2 words for a stack slot, 8 for an execution slot.
unfoldable pub limits : Lent → Limits
limits l = record { stack_slots = l.stack_words / stack_width; exec_slots = l.exec_words / exec_width }

-- A setup refusal by its number, the named refusal, or none.
pub data Verdict : Type 0 where
  refused : ℕ → Verdict
  memory_slots : Verdict
  runs : Verdict

-- Setup 1, 3, 4, 5 and 9, then memory not 32 slots.
unfoldable pub verdict : List ℕ → ℕ → Lent → List ℕ → Verdict
verdict script fuel l memory =
    let s = limits l in
    cond (is_too_long script) (refused 1)
    (cond (ltb fuel_most fuel) (refused 3)
    (cond (not (within stack_least stack_most s.stack_slots)) (refused 4)
    (cond (not (within exec_least exec_most s.exec_slots)) (refused 5)
    (cond (ltb l.outcome_bytes (head_room + item_room * s.stack_slots)) (refused 9)
    (cond (not (eqb (length memory) 32)) memory_slots runs)))))

-- What is printed, and the memory that is kept for the next run.
pub record Printed : Type 0 where
  pub text : List ℕ
  pub memory : List ℕ

-- The outcome and the last memory, or the refusal and the memory as it was.
unfoldable pub printed : List ℕ → ℕ → Lent → List ℕ → Printed
printed script fuel l memory =
    elim (verdict script fuel l memory) [
      | refused n ↦ record { text = line (bytes "refused") (decimal n); memory = memory }
      | memory_slots ↦ record { text = line (bytes "refused") (bytes "memory not 32 slots"); memory = memory }
      | runs ↦ let r = run (limits l) script fuel (initial memory) in record { text = outcome r; memory = r.final.machine.memory }
    ]

-- ---- the token reading

-- The paper's words for each kind of token.
unfoldable pub kind_text : Kind → List ℕ
kind_text Integer = bytes "integer"
kind_text Word = bytes "word"
kind_text OpenBrace = bytes "open brace"
kind_text CloseBrace = bytes "close brace"
kind_text End = bytes "end"

pub data Reading : Type 0 where
  refused : ℕ → Reading
  faulty : Error → Reading
  read : Kind → ℕ → ℕ → ℕ → Reading  -- the kind, the offset after it, and where it begins and how many bytes it has

unfoldable pub kind_of : Token → Kind
kind_of (Token.integer w) = Integer
kind_of (Token.word n) = Word
kind_of Token.open_brace = OpenBrace
kind_of Token.close_brace = CloseBrace
kind_of Token.end = End

unfoldable pub reading_of : ℕ → Lexeme → Reading
reading_of start l = read (kind_of l.token) (start + l.size) start l.size

-- As 01's: refusals 1 and 10, then syntaxerror.
unfoldable pub reading : List ℕ → ℕ → Reading
reading script offset =
    elim (is_too_long script) [
      | true ↦ refused 1
      | false ↦ elim (ltb (length script) offset) [
        | true ↦ refused 10
        | false ↦
            let start = skip script offset in
            elim (lex (drop start script)) [ fault e ↦ faulty e | ok l ↦ reading_of start l ]
      ]
    ]

-- Opens every definition of this file.
unfoldable pub settings : Unit {0}
unfolding limits verdict printed kind_text kind_of reading_of reading
settings = tt
