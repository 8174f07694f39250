-- What is lent, as the definition has it, and what a run that is made may rely on (01, Setup).
-- Assumes nothing.
use Rattle.std.specs.Prelude.{◌≡◌, true, Result, Ok, Err, List, ℕ, ◌+◌, ◌*◌, ◌/◌, ◌≤◌, length, take}
use Rattle.semantics.specs.Sizes.{name_count, stack_width, exec_width, dictionary_width, cell_width, script_most, fuel_most, stack_least, stack_most, exec_least, exec_most, dictionary_most, cells_least, cells_most, log_most, head_room, item_room}
use Rattle.semantics.specs.Text.{bytes, same}
use Rattle.semantics.specs.Setup as setup
use Rattle.setup.specs.declared.Lent.{Lent}
use Rattle.setup.specs.declared.Refusal.{Refusal}
use Rattle.setup.specs.declared.Refusal.TheVariants.{ScriptTooLong, NotAScript, TooMuchFuel, StackSlots, ExecutionSlots, DictionarySlots, Cells, LogTooLong, OutcomeTooShort}

abbrev pub lent_of : Lent → setup.Lent
lent_of l =
    record {
      stack_words = l.stack;
      exec_words = l.exec;
      dictionary_words = l.dict;
      cell_words = l.cells;
      log_bytes = l.log;
      outcome_bytes = l.outcome;
    }

-- A refusal's number in the paper's table.
abbrev pub number_of : Refusal → ℕ
number_of ScriptTooLong = 1
number_of NotAScript = 2
number_of TooMuchFuel = 3
number_of StackSlots = 4
number_of ExecutionSlots = 5
number_of DictionarySlots = 6
number_of Cells = 7
number_of LogTooLong = 8
number_of OutcomeTooShort = 9

-- The number that the definition tells; 0 where the run is made.
abbrev pub number_told : Result (Unit {0}) Refusal → ℕ
number_told (Ok _) = 0
number_told (Err r) = number_of r

-- None of the tests 1 to 9 holds.
pub record Accepted (script : List ℕ) (fuel : ℕ) (l : setup.Lent) : Type 0 where
  pub short : length script ≤ script_most
  pub begins : same (take 5 script) (bytes "#FLOO") ≡ true
  pub fueled : fuel ≤ fuel_most
  pub stack_slots : (stack_least ≤ l.stack_words / stack_width) × (l.stack_words / stack_width ≤ stack_most)
  pub exec_slots : (exec_least ≤ l.exec_words / exec_width) × (l.exec_words / exec_width ≤ exec_most)
  pub dictionary_slots : (name_count ≤ l.dictionary_words / dictionary_width) × (l.dictionary_words / dictionary_width ≤ dictionary_most)
  pub cell_count : (cells_least ≤ l.cell_words / cell_width) × (l.cell_words / cell_width ≤ cells_most)
  pub log_bytes : l.log_bytes ≤ log_most
  pub outcome_bytes : head_room + item_room * (l.stack_words / stack_width) ≤ l.outcome_bytes
