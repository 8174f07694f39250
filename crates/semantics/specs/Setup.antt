-- What the public operations answer: setup and its refusals, what the program prints, and the token reading (01, Setup and Outcome).
-- Assumes nothing.
use Rattle.std.specs.Prelude.{Bool, true, false, not, List, [], ◌∷◌, ◌++◌, ℕ, zero, suc, ◌+◌, ◌-◌, ◌*◌, ◌/◌, length, take, drop, ltb}
use Rattle.semantics.specs.Sizes.{name_count, stack_width, exec_width, dictionary_width, cell_width, script_most, fuel_most, stack_least, stack_most, exec_least, exec_most, dictionary_most, cells_least, cells_most, log_most, head_room, item_room}
use Rattle.semantics.specs.Text.{bytes, same, decimal}
use Rattle.semantics.specs.Values.{ok, fault}
use Rattle.semantics.specs.Tokens.{Token, Lexeme, lex, within}
use Rattle.semantics.specs.Groups.{skip}
use Rattle.semantics.specs.Steps.{Limits, run, initial}
use Rattle.semantics.specs.Outcome.{line, outcome}
use Rattle.semantics.specs.declared.Fault.{Fault}
use Rattle.semantics.specs.declared.Kind.{Kind}
use Rattle.semantics.specs.declared.Kind.TheVariants.{Integer, String, LiteralName, ExecutableName, OpenBrace, CloseBrace, End}

-- ---- setup

-- What a caller lends: the lengths of the four buffers of 32-bit words, and of the two of bytes.
pub record Lent : Type 0 where
  pub stack_words : ℕ
  pub exec_words : ℕ
  pub dictionary_words : ℕ
  pub cell_words : ℕ
  pub log_bytes : ℕ
  pub outcome_bytes : ℕ

-- 2 words for a stack slot, 8 for an execution slot, 12 for a dictionary slot, 4 for a cell.
unfoldable pub limits : Lent → Limits
limits l =
    record {
      stack_slots = l.stack_words / stack_width;
      exec_slots = l.exec_words / exec_width;
      dictionary_slots = l.dictionary_words / dictionary_width;
      cell_count = l.cell_words / cell_width;
      log_bytes = l.log_bytes;
    }

-- The number of the first test that holds, counted from n; 0 where none does.
unfoldable pub first_from : ℕ → List Bool → ℕ
first_from n [] = 0
first_from n (t ∷ ts) = elim t [ true ↦ n | false ↦ first_from (suc n) ts ]

unfoldable pub is_too_long : List ℕ → Bool
is_too_long script = ltb script_most (length script)

-- The refusals 1 to 9, the first that applies (R7); 0 where the run is made. The limits themselves are accepted (R9); refusal 9 goes by whole slots (R10), and only
-- the first five bytes must be #FLOO (R8).
unfoldable pub refusal : List ℕ → ℕ → Lent → ℕ
refusal script fuel l =
    let s = limits l in
    first_from 1
    (is_too_long script
    ∷ not (same (take 5 script) (bytes "#FLOO"))
    ∷ ltb fuel_most fuel
    ∷ not (within stack_least stack_most s.stack_slots)
    ∷ not (within exec_least exec_most s.exec_slots)
    ∷ not (within name_count dictionary_most s.dictionary_slots)
    ∷ not (within cells_least cells_most s.cell_count)
    ∷ ltb log_most l.log_bytes
    ∷ ltb l.outcome_bytes (head_room + item_room * s.stack_slots)
    ∷ [])

-- What the program prints: the log, then the outcome (R88), or the refusal (R11).
unfoldable pub printed : List ℕ → ℕ → Lent → List ℕ
printed script fuel l =
    elim (refusal script fuel l) [
      | zero ↦ let r = run (limits l) script fuel initial in r.final.machine.log ++ outcome r
      | suc n ↦ line (bytes "refused") (decimal (suc n))
    ]

-- ---- the token reading

-- The paper's words for each kind of token.
unfoldable pub kind_text : Kind → List ℕ
kind_text Integer = bytes "integer"
kind_text String = bytes "string"
kind_text LiteralName = bytes "literal name"
kind_text ExecutableName = bytes "executable name"
kind_text OpenBrace = bytes "open brace"
kind_text CloseBrace = bytes "close brace"
kind_text End = bytes "end"

pub data Reading : Type 0 where
  refused : ℕ → Reading
  faulty : Fault → Reading
  read : Kind → ℕ → ℕ → ℕ → Reading  -- the kind, the offset after it, and where its own bytes begin and how many they are

-- A string's own bytes are without quotes, a literal name's without its slash; a brace's and a bracket's are itself (R15, R16).
unfoldable pub reading_of : ℕ → Lexeme → Reading
reading_of start l =
    let after = start + l.size in
    elim l.token [
      | Token.integer w ↦ read Integer after start l.size
      | Token.string bs ↦ read String after (start + 1) (l.size - 2)
      | Token.name true n ↦ read ExecutableName after start l.size
      | Token.name false n ↦ read LiteralName after (start + 1) (l.size - 1)
      | Token.open_brace ↦ read OpenBrace after start 1
      | Token.close_brace ↦ read CloseBrace after start 1
      | Token.end ↦ read End after start 0
    ]

-- It asks for no #FLOO and starts afresh at any offset (R13); the length is the end (R14). Escapes and ranges are judged as in a run (R17).
unfoldable pub reading : List ℕ → ℕ → Reading
reading script offset =
    elim (is_too_long script) [
      | true ↦ refused 1
      | false ↦ elim (ltb (length script) offset) [
        | true ↦ refused 10
        | false ↦
            let start = skip script offset in
            elim (lex start (drop start script)) [ fault f ↦ faulty f | ok l ↦ reading_of start l ]
      ]
    ]

-- Opens every definition of this file.
unfoldable pub settings : Unit {0}
unfolding limits first_from is_too_long refusal printed kind_text reading_of reading
settings = tt
