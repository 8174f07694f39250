-- The start of a run.
-- Assumes nothing.
use Rattle.std.specs.Prelude.{◌≡◌, List, ℕ, ◌≤◌, length, get_or}
use Rattle.semantics.specs.Sizes.{stack_words_most, exec_words_most, name_words}
use Rattle.semantics.specs.Steps.{initial}
use Rattle.machine.specs.Rep.{Rep}
use Rattle.machine.specs.declared.Machine.{Machine}

-- Whatever the other words hold, they stand for the machine at the start; the words after the predefined names are as they were.
pub record Begins (d d' c : List ℕ) (r : Machine) : Type 0 where
  pub stands : (s e l : List ℕ) → length s ≤ stack_words_most → length e ≤ exec_words_most → Rep r s e d' c l initial.machine
  pub kept : (i : ℕ) → name_words ≤ i → get_or d' i 0 ≡ get_or d i 0
