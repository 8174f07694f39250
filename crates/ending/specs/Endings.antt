-- What a command and an ending stand for in the definition (01, Outcome).
-- Assumes nothing.
use Rattle.std.specs.Prelude.{List, [], ℕ, ◌+◌, ◌≤◌, ◌<◌, length, get_or, take, drop}
use Rattle.semantics.specs.Sizes.{operator_count, name_most}
use Rattle.semantics.specs.Steps as steps
use Rattle.store.specs.Rep.{titles}
use Rattle.ending.specs.declared.Command.{Command}
use Rattle.ending.specs.declared.Command.TheVariants.{Nothing, Operator, Name, Token, Taken}
use Rattle.ending.specs.declared.Ending.{Ending}
use Rattle.ending.specs.declared.Ending.TheVariants.{Finished, Stopped, OutOfFuel, Failed, Misread}

-- The bytes of a command, given the script and the names by their slots.
unfoldable pub command_text : List ℕ → List (List ℕ) → Command → List ℕ
command_text script names Nothing = []
command_text script names (Operator k) = get_or titles k []
command_text script names (Name k) = get_or names k []
command_text script names (Token at size) = take size (drop at script)
command_text script names (Taken after) = []

-- A command that there is: its operator, its slot or its bytes.
abbrev pub IsCommand : List ℕ → List (List ℕ) → Command → Type 0
IsCommand script names Nothing = Unit {0}
IsCommand script names (Operator k) = k < operator_count
IsCommand script names (Name k) = k < length names
IsCommand script names (Token at size) = (at + size ≤ length script) × (size ≤ name_most)
IsCommand script names (Taken after) = after ≤ length script

-- Where the script's bytes that are left begin once what failed is taken: after a token of the script, else where they did.
abbrev pub after_of : ℕ → Command → ℕ
after_of next Nothing = next
after_of next (Operator k) = next
after_of next (Name k) = next
after_of next (Token at size) = at + size
after_of next (Taken after) = after

unfoldable pub ending_of : List ℕ → List (List ℕ) → Ending → steps.Ending
ending_of script names Finished = steps.finished
ending_of script names Stopped = steps.stopped
ending_of script names OutOfFuel = steps.out_of_fuel
ending_of script names (Failed e command) = steps.failed e (command_text script names command)
ending_of script names (Misread f) = steps.misread f

abbrev pub IsEnding : List ℕ → List (List ℕ) → Ending → Type 0
IsEnding script names Finished = Unit {0}
IsEnding script names Stopped = Unit {0}
IsEnding script names OutOfFuel = Unit {0}
IsEnding script names (Failed e command) = IsCommand script names command
IsEnding script names (Misread f) = Unit {0}
