-- The offset of a fault lies in the script and not before its token: for a token, a brace group, the token reading and a run (02, W4).
-- Assumes nothing.
use Prim.Native.Nat.{ℕ, ◌≤◌}
use Rattle.semantics.specs.Steps as steps
use Rattle.semantics.specs.Steps.{Limits, State, Step, goes, misreads, unmoved, failing, ended, moved, token_move, token_step, step_on, step, Ending, misread, Run, is_finished, finish, go_on}
use Rattle.semantics.specs.Setup.{Reading, refused, faulty, read}
use Rattle.semantics.specs.declared.Fault.{Fault}
use Rattle.semantics.specs.declared.Fault.TheVariants.{BadNumber, BadEscape, OpenString, BadBrace, BadByte, OverLimit}

-- From `low` to `high`; a limit has no offset.
abbrev pub Where : ℕ → ℕ → Fault → Type 0
Where low high (BadNumber o) = (low ≤ o) × (o ≤ high)
Where low high (BadEscape o) = (low ≤ o) × (o ≤ high)
Where low high (OpenString o) = (low ≤ o) × (o ≤ high)
Where low high (BadBrace o) = (low ≤ o) × (o ≤ high)
Where low high (BadByte o) = (low ≤ o) × (o ≤ high)
Where low high OverLimit = Unit {0}

-- ---- the theorems

-- What an ending says of a token lies there.
abbrev pub Placed : ℕ → ℕ → Ending → Type 0
Placed low high steps.finished = Unit {0}
Placed low high steps.stopped = Unit {0}
Placed low high steps.out_of_fuel = Unit {0}
Placed low high (steps.failed e c) = Unit {0}
Placed low high (misread f) = Where low high f

-- So has the token reading, not before the offset that is given.
abbrev pub ReadPlaced : ℕ → ℕ → Reading → Type 0
ReadPlaced low high (refused n) = Unit {0}
ReadPlaced low high (faulty f) = Where low high f
ReadPlaced low high (read k next start size) = Unit {0}
