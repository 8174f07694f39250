-- `fill_at` meets its contract: the loop keeps `Filling`, that the bytes read so far stand in front. The measure is what is left of the script.
-- Assumes nothing.
use Prim.Native.Nat.{◌-◌}
use lib.ListN.{length}
use Rattle.strings.proofs.Filling.{Filling}
use Rattle.strings.proofs.fill_at.Given as goal

abbrev pub invariant-loop-b : goal.invariant-loop-b
invariant-loop-b l = Filling l.h l.initial.cells l.cells l.script l.start l.at l.q

abbrev pub decreases-loop-b : goal.decreases-loop-b
decreases-loop-b l = length l.script - l.at
