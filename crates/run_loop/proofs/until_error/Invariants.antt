-- `until_error` meets its contract: the loop keeps `Going`, and each way out is a law of it. The measure is the steps that are left.
-- Assumes nothing.
use Rattle.run_loop.proofs.Running.{Going}
use Rattle.run_loop.specs.History.{moment}
use Prim.Native.Nat.{◌-◌}
use Rattle.run_loop.proofs.until_error.Given as goal

abbrev pub invariant-loop-st : goal.invariant-loop-st
invariant-loop-st l = Going l.script l.limit l.initial.st l.initial.stack l.initial.exec l.initial.dict l.initial.cells l.initial.log (moment l.st l.stack l.exec l.dict l.cells l.log)

abbrev pub decreases-loop-st : goal.decreases-loop-st
decreases-loop-st l = l.limit - l.st.steps
