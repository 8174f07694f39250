-- `advance` meets its contract: the outer loop keeps `Running`, and an error that is handed over leaves less of the fuel.
-- Assumes nothing.
use Prim.Native.Nat.{◌+◌, ◌-◌}
use Rattle.run_loop.specs.History.{moment}
use Rattle.run_loop.specs.Halting.{Running}
use Rattle.run_loop.proofs.advance.Given as goal

abbrev pub invariant-loop-e : goal.invariant-loop-e
invariant-loop-e l = Running l.script l.fuel (moment l.initial.st l.initial.stack l.initial.exec l.initial.dict l.initial.cells l.initial.log) (moment l.st l.stack l.exec l.dict l.cells l.log) (l.initial.st.steps + l.fuel - l.st.steps)

abbrev pub decreases-loop-e : goal.decreases-loop-e
decreases-loop-e l = l.initial.st.steps + l.fuel - l.st.steps
