-- `groups::judge` meets its contract: what is known of the rest of a group gives what is known of the whole, and an inner group has a level less.
-- Assumes nothing.
use lib.ListN.{length}
use Rattle.groups.proofs.Judging.{Judging}
use Prim.Native.Nat.{◌-◌}
use Rattle.groups.proofs.+judge.Given as goal

abbrev pub invariant-loop-weight : goal.invariant-loop-weight
invariant-loop-weight l = Judging l.script l.depth l.from l.at l.size l.wants

abbrev pub decreases-loop-weight : goal.decreases-loop-weight
decreases-loop-weight l = length l.script - l.at

abbrev pub decreases-judge : goal.decreases-judge
decreases-judge l = l.depth
