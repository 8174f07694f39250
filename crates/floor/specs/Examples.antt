-- Scans computed by the definition, each answer once: in the paper's words, with what the book says after it (02, W3).
-- Assumes nothing.
use Rattle.std.specs.Prelude.{◌≡◌, refl, List, [], ◌∷◌, ◌++◌, map, ℕ, ◌+◌, ◌-◌, ◌*◌, take, replicate}
use Prim.Native.String.{String}
use Rattle.semantics.specs.Sizes.{name_count}
use Rattle.semantics.specs.Text.{bytes, textual}
use Rattle.semantics.specs.Words.{words}
use Rattle.semantics.specs.Values.{values}
use Rattle.semantics.specs.Tokens.{tokens}
use Rattle.semantics.specs.Machine.{machinery}
use Rattle.semantics.specs.Operators.{operators}
use Rattle.semantics.specs.Held.{holding}
use Rattle.semantics.specs.Groups.{grouping}
use Rattle.semantics.specs.Steps.{stepping}
use Rattle.semantics.specs.Setup.{Lent, settings}
use Rattle.book.specs.Books.{Entry, entry_of, record_of, booked}
use Rattle.book.specs.Fates.{fated}
use Rattle.book.specs.declared.Record.{Record}
use Rattle.floor.specs.Floor.{Asked, Scan, answer_text, scan_of, floored}

-- What is lent, with so many dictionary slots and cells.
lent : ℕ → ℕ → Lent
lent slots cells = record { stack_words = 512; exec_words = 1024; dictionary_words = 12 * slots; cell_words = 4 * cells; log_bytes = 8192; outcome_bytes = 35072 }

asking : ℕ → ℕ → String → List ℕ → Asked
asking slots cells script label = record { script = bytes "#FLOO\n" ++ bytes script; fuel = 1000; label = label; lent = lent slots cells }

entry : ℕ → String → ℕ → Entry
entry n p t = record { number = n; place = bytes p; time = t }

-- A book of two sockets, with room for three.
book : List Record
book = record_of (entry 7 "rack A" 100) ∷ record_of (entry 9 "rack B" 200) ∷ record_of (entry 0 "x" 0) ∷ []

-- The answer, and what the records that count say.
pub record Shown : Type 0 where
  pub answer : List ℕ
  pub says : List Entry

shown : Scan → Shown
shown s = record { answer = answer_text s.answer; says = map entry_of (take s.count s.book) }

told : String → List Entry → Shown
told answer says = record { answer = bytes answer; says = says }

-- A script and a label, with room, in the book of two.
scan : String → String → Shown
scan script label = shown (scan_of (asking 100 4096 script (bytes label)) book 2)

two : List Entry
two = entry 7 "rack A" 100 ∷ entry 9 "rack B" 200 ∷ []

unfolded : Unit {0}
unfolding lent asking entry book shown told scan two
unfolded = tt

examples : (scan "9 label 201" "shelf 3" ≡ told "replaces the record at 1" (entry 7 "rack A" 100 ∷ entry 9 "shelf 3" 201 ∷ []))
    × (scan "8 label 5" "shelf 3" ≡ told "goes after the last, at 2" (entry 7 "rack A" 100 ∷ entry 9 "rack B" 200 ∷ entry 8 "shelf 3" 5 ∷ []))
    × (scan "9 label 200" "shelf 3" ≡ told "late" two)
    × (scan "9 label 199" "shelf 3" ≡ told "late" two)
    × (scan "9 label" "shelf 3" ≡ told "stack not of this form" two)
    × (scan "9 label -1" "shelf 3" ≡ told "stack not of this form" two)
    × (scan "9 label 201" "" ≡ told "stack not of this form" two)
    × (scan "9 label 201 stop" "shelf 3" ≡ told "run not finished" two)
    × (shown (scan_of (asking (name_count + 1) 2 "9 label 201" (bytes "shelf 3")) book 2) ≡ told "replaces the record at 1" (entry 7 "rack A" 100 ∷ entry 9 "shelf 3" 201 ∷ []))
    × (shown (scan_of (asking name_count 2 "9 label 201" (bytes "shelf 3")) book 2) ≡ told "no slot for label" two)
    × (shown (scan_of (asking (name_count + 1) 1 "9 label 201" (bytes "shelf 3")) book 2) ≡ told "no cells for label" two)
    × (shown (scan_of (asking name_count 1 "9 label 201" (replicate 513 65)) book 2) ≡ told "label over 512 bytes" two)
    × (answer_text (scan_of (asking name_count 1 "9 label 201" (replicate 513 65)) (record_of (entry 7 "a" 1) ∷ record_of (entry 7 "b" 2) ∷ []) 2).answer ≡ bytes "book malformed")
    × (answer_text (scan_of (asking (name_count - 1) 1 "9 label 201" (replicate 513 65)) book 4).answer ≡ bytes "refused=6")
    × (answer_text (scan_of (asking 100 4096 "8 label 5" (bytes "x")) book 4).answer ≡ bytes "book malformed")
    × (answer_text (scan_of (asking 100 4096 "8 label 5" (bytes "x")) (take 2 book) 2).answer ≡ bytes "no room for a new socket")
unfolding textual words values tokens machinery operators holding grouping stepping settings booked fated floored unfolded
examples = (refl, refl, refl, refl, refl, refl, refl, refl, refl, refl, refl, refl, refl, refl, refl, refl)
