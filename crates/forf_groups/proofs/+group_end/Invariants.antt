-- `forf_groups::group_end` meets its contract: each way to an answer by its law.
-- Assumes nothing.
use Rattle.forf_groups.proofs.Ending.{Reads}
use Prim.Native.Nat.{◌-◌}
use lib.ListN.{length}
use Rattle.forf_groups.proofs.+group_end.Given as goal

abbrev pub decreases-group_end : goal.decreases-group_end
decreases-group_end l = l.depth

abbrev pub invariant-loop-token : goal.invariant-loop-token
invariant-loop-token l = Reads l.script l.depth l.from l.at

abbrev pub decreases-loop-token : goal.decreases-loop-token
decreases-loop-token l = length l.script - l.at
