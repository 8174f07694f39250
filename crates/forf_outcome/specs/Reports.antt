-- The outcome's text by the machine's words, and what must be known of them to write it.
-- Assumes nothing.
use Rattle.std.specs.Prelude.{List, [], ◌++◌, ℕ, zero, suc, ◌+◌, ◌*◌, ◌≤◌, length, get_or}
use Rattle.semantics.specs.Sizes.{script_most, stack_width, head_room, item_room}
use Rattle.semantics.specs.Text.{bytes, decimal}
use Rattle.semantics.specs.Outcome.{line}
use Rattle.semantics.specs.ListLaws.{All}
use Rattle.forf_semantics.specs.Errors.{error_text}
use Rattle.forf_semantics.specs.Outcome.{ending_lines, item}
use Rattle.forf_semantics.specs.declared.Error.{Error}
use Rattle.forf_machine.specs.Slots.{slots}
use Rattle.forf_machine.specs.Rep.{value_of, SoundValue}
use Rattle.forf_steps.specs.Stepping.{Command, command_text}
use Rattle.forf_steps.specs.Running.{ending_of, HeldEnding}
use Rattle.forf_steps.specs.declared.Ended.{Ended}

unfoldable pub failure_lines : List ℕ → Error → Command → List ℕ
failure_lines script x c = bytes "ending=error\n" ++ line (bytes "error") (error_text x) ++ line (bytes "command") (command_text script c)

-- Slots whose substacks can be read.
pub record Items (script : List ℕ) (depth : ℕ) (s : List ℕ) : Type 0 where
  pub fits : stack_width * depth ≤ length s
  pub values : All (SoundValue script) (slots stack_width depth s)
  pub short : length script ≤ script_most

-- The line of slot i, and the lines of the first n slots, the bottom first.
unfoldable pub line_at : List ℕ → ℕ → List ℕ → List ℕ
line_at script i s = line (bytes "item") (item (value_of script (get_or s (stack_width * i) 0, get_or s (stack_width * i + 1) 0)))

unfoldable pub item_lines : List ℕ → ℕ → List ℕ → List ℕ
item_lines script zero s = []
item_lines script (suc n) s = item_lines script n s ++ line_at script n s

unfoldable pub outcome_of : List ℕ → Ended → List ℕ → List ℕ
outcome_of script r s =
    ending_lines (ending_of script r.ending)
    ++ line (bytes "at") (decimal r.state.at)
    ++ line (bytes "steps") (decimal r.state.steps)
    ++ line (bytes "depth") (decimal r.state.machine.depth)
    ++ item_lines script r.state.machine.depth s

pub record Writing (script : List ℕ) (r : Ended) (s out : List ℕ) : Type 0 where
  pub held : HeldEnding script r.ending
  pub items : Items script r.state.machine.depth s
  pub within : r.state.at ≤ length script
  pub few : r.state.machine.depth ≤ 256
  pub room : head_room + item_room * r.state.machine.depth ≤ length out
