-- `forf_steps::run` meets its contract: each way to an answer by its law.
-- Assumes nothing.
use Rattle.forf_steps.proofs.Running.{Running}
use Prim.Native.Nat.{◌-◌}
use Rattle.forf_steps.proofs.run.Given as goal

abbrev pub invariant-loop-st : goal.invariant-loop-st
invariant-loop-st l = Running l.script l.fuel l.initial.stack l.initial.exec l.initial.memory l.stack l.exec l.memory l.st

abbrev pub decreases-loop-st : goal.decreases-loop-st
decreases-loop-st l = l.fuel - l.st.steps
