-- `build` meets its contract: the loop keeps `Going`, that what is left to plant gives what there was to plant; an inner group has a level less, which is the measure.
-- Assumes nothing.
use Rattle.group_building.proofs.Turning.{Going}
use lib.ListN.{length}
use Prim.Native.Nat.{◌-◌}
use Rattle.group_building.proofs.+build.Given as goal

abbrev pub decreases-build : goal.decreases-build
decreases-build l = l.depth

abbrev pub invariant-loop-read : goal.invariant-loop-read
invariant-loop-read l = Going l.dict l.script l.depth l.initial.r l.initial.cells l.from l.first l.r l.cells l.at l.c

abbrev pub decreases-loop-read : goal.decreases-loop-read
decreases-loop-read l = length l.script - l.at
