-- The sizes of the program (01, Outcome), and what is printed of an answer: the line of a refusal, or the start of the outcome.
-- Assumes nothing.
use Rattle.std.specs.Prelude.{List, ℕ, ◌+◌, ◌*◌, ◌≤◌, length, take, replicate}
use Rattle.semantics.specs.Sizes.{fuel_most, stack_most, head_room, item_room, stack_words_most, exec_words_most}
use Rattle.semantics.specs.Text.{bytes, decimal}
use Rattle.semantics.specs.Outcome.{line}
use Rattle.forf_semantics.specs.Setup.{Lent, printed}
use Rattle.forf_runner.specs.Promise.{Answer, number_of}
use Rattle.std.specs.Prelude.{Option, Some, None, Ok, Err}

abbrev pub sizes : Lent
sizes = record { stack_words = stack_words_most; exec_words = exec_words_most; outcome_bytes = head_room + item_room * stack_most }

-- What the definition prints, with a memory of zeros.
unfoldable pub printed_text : List ℕ → List ℕ
printed_text script = (printed script fuel_most sizes (replicate 32 0)).text

abbrev pub refusal_line : Option ℕ → List ℕ
refusal_line (Some n) = line (bytes "refused") (decimal n)
refusal_line None = bytes "refused=memory not 32 slots\n"

abbrev pub told : Answer → List ℕ → List ℕ
told (Err r) outcome = refusal_line (number_of r)
told (Ok r) outcome = take r.outcome outcome

-- The count lies within the buffer, which is a page long.
abbrev pub Within : Answer → List ℕ → Type 0
Within (Err r) outcome = Unit {0}
Within (Ok r) outcome = (r.outcome ≤ length outcome) × (length outcome ≤ head_room + item_room * stack_most)
