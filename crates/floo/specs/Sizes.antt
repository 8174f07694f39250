-- The sizes of the program (01, Outcome): "fuel 1,000,000, slots 256, 128, 512, cells 4,096, log 8,192".
-- Assumes nothing.
use Rattle.std.specs.Prelude.{ℕ, ◌+◌, ◌*◌}
use Rattle.semantics.specs.Sizes.{fuel_most, cell_width, stack_most, head_room, item_room, stack_words_most, exec_words_most, dictionary_words_most}
use Rattle.semantics.specs.Setup.{Lent}

abbrev pub fuel : ℕ
fuel = fuel_most

abbrev pub sizes : Lent
sizes =
    record {
      stack_words = stack_words_most;
      exec_words = exec_words_most;
      dictionary_words = dictionary_words_most;
      cell_words = cell_width * 4096;
      log_bytes = 8192;
      outcome_bytes = head_room + item_room * stack_most;
    }

-- A log and an outcome.
abbrev pub page : ℕ
page = sizes.log_bytes + sizes.outcome_bytes
