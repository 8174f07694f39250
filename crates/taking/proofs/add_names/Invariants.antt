-- `add_names` meets its contract: the loop keeps `Adding`, what the names that are done come to. The measure is what is left of the group.
-- Assumes nothing.
use Rattle.taking.proofs.Naming.{Adding}
use Prim.Native.Nat.{◌-◌}
use Rattle.taking.proofs.add_names.Given as goal

abbrev pub invariant-loop-at : goal.invariant-loop-at
invariant-loop-at l = Adding l.script l.from l.end l.initial.r l.initial.dict l.at l.r l.dict

abbrev pub decreases-loop-at : goal.decreases-loop-at
decreases-loop-at l = l.end - l.at
