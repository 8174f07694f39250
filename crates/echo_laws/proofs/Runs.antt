-- What the theorems on echo lines speak of: states of runs, the lines that their steps add to the log, and the strings that they push.
-- Assumes nothing.
use Rattle.std.specs.Prelude.{◌≡◌, List, ◌∷◌, ◌++◌, ℕ, suc, ◌+◌, ◌-◌, ◌≤◌, length, take, drop}
use Rattle.semantics.specs.Text.{bytes}
use Rattle.semantics.specs.Values.{Value, integer, string}
use Rattle.semantics.specs.Machine.{Machine, Frame, made}
use Rattle.semantics.specs.Printing.{echoed}
use Rattle.semantics.specs.Groups.{skip}
use Rattle.semantics.specs.Steps.{Limits, State, goes, step, out_of_fuel, run}
use Rattle.echo_laws.specs.Ranges.{Admitted}
use Rattle.echo_laws.proofs.Soundness.{Sound}
use Rattle.echo_laws.specs.Runs.{current_at, line_of, Executes}

-- A run, by what is lent, its script, its fuel and the state that it begins with, and the state that it comes to: with each fuel one of the run's states.
pub record Trial : Type 0 where
  pub lent : Limits
  pub script : List ℕ
  pub fuel : ℕ
  pub start : State
  pub admitted : Admitted lent script
  pub sound : Sound lent start.machine

abbrev pub state_of : Trial → State
state_of r = (run r.lent r.script r.fuel r.start).final

abbrev pub machine_of : Trial → Machine
machine_of r = (state_of r).machine

-- A state of a run whose step executes echo with this item on top, and whose log has room for the line. (Without room the step fails; a handler may go on from it.)
pub record Echoing (r : Trial) (v : Value) : Type 0 where
  pub top : Frame
  pub others : List Frame
  pub items : List Value
  pub exec : (machine_of r).exec ≡ top ∷ others
  pub stack : (machine_of r).stack ≡ v ∷ items
  pub executes : Executes (machine_of r) (bytes "echo") top
  pub fits : length (machine_of r).log + length (line_of (machine_of r) v) ≤ r.lent.log_bytes

-- The step goes on, and adds this to the log.
pub record Adds (r : Trial) (line : List ℕ) : Type 0 where
  pub after : State
  pub goes : step r.lent r.script (state_of r) ≡ goes after
  pub log : after.machine.log ≡ (machine_of r).log ++ line

-- The run with one fuel more: its next state, if it goes on.
abbrev pub next : Trial → Trial
next r =
    record { lent = r.lent; script = r.script; fuel = suc r.fuel; start = r.start; admitted = r.admitted; sound = r.sound }

-- The run has not come to its end in this state, but for fuel.
abbrev pub GoesOn : Trial → Type 0
GoesOn r = (run r.lent r.script r.fuel r.start).ending ≡ out_of_fuel

-- What stands in a log between the log's length in this state and in the next.
abbrev pub stretch : Trial → List ℕ → List ℕ
stretch r log = take (length (machine_of (next r)).log - length (machine_of r).log) (drop (length (machine_of r).log) log)

-- The bytes of a run's script from its next token on.
abbrev pub left_of : Trial → List ℕ
left_of r = drop (skip r.script (state_of r).next) r.script

-- The step goes on and pushes a string whose current bytes are those of string i of the machine m, so that it echoes as that one did.
pub record PushesAlike (r : Trial) (m : Machine) (i : ℕ) : Type 0 where
  pub after : State
  pub goes : step r.lent r.script (state_of r) ≡ goes after
  pub pushed : after.machine.stack ≡ string (made (machine_of r)) ∷ (machine_of r).stack
  pub current : current_at after.machine (made (machine_of r)) ≡ current_at m i
  pub again : echoed after.machine (string (made (machine_of r))) ≡ echoed m (string i)

-- The step goes on and pushes this integer.
pub record Pushes (r : Trial) (w : ℕ) : Type 0 where
  pub after : State
  pub goes : step r.lent r.script (state_of r) ≡ goes after
  pub pushed : after.machine.stack ≡ integer w ∷ (machine_of r).stack
