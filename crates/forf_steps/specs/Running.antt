-- What the steps of a run come to, by the definition's run.
-- Assumes nothing.
use Rattle.std.specs.Prelude.{◌≡◌, List, ℕ, ◌≤◌, length}
use Rattle.semantics.specs.Sizes.{script_most, fuel_most}
use Rattle.forf_semantics.specs.Steps.{finished, out_of_fuel, failed, run, initial}
use Rattle.forf_semantics.specs.Steps as Forf
use Rattle.forf_machine.specs.Rep.{limits_of}
use Rattle.forf_steps.specs.Stepping.{state_of, Stands, command_text, HeldCommand}
use Rattle.forf_steps.specs.declared.Ending.{Ending}
use Rattle.forf_steps.specs.declared.Ending.TheVariants as ending
use Rattle.forf_steps.specs.declared.Ended.{Ended}

-- What setup has accepted.
pub record Begun (script : List ℕ) (fuel : ℕ) (mem : List ℕ) : Type 0 where
  pub short : length script ≤ script_most
  pub fueled : fuel ≤ fuel_most
  pub memory_slots_lem : length mem ≡ 32

abbrev pub ending_of : List ℕ → Ending → Forf.Ending
ending_of script ending.Finished = finished
ending_of script ending.OutOfFuel = out_of_fuel
ending_of script (ending.Failed x c) = failed x (command_text script c)

abbrev pub HeldEnding : List ℕ → Ending → Type 0
HeldEnding script ending.Finished = Unit {0}
HeldEnding script ending.OutOfFuel = Unit {0}
HeldEnding script (ending.Failed x c) = HeldCommand script c

-- The run ends as the definition's does, and its stack and memory are those of the words; of the execution stack it is said that some words stand for it.
pub record Ends (script : List ℕ) (fuel : ℕ) (s s' e mem mem' : List ℕ) (r : Ended) : Type 0 where
  pub exec : List ℕ
  pub runs : run (limits_of s e) script fuel (initial mem) ≡ record { ending = ending_of script r.ending; final = state_of script r.state s' exec mem' }
  pub stands : Stands script r.state s' exec mem'
  pub held : HeldEnding script r.ending
  pub steps : r.state.steps ≤ fuel
