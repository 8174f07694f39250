-- `forf_groups::count_items` meets its contract: each way to an answer by its law.
-- Assumes nothing.
use Rattle.forf_groups.proofs.Taking.{Counts}
use Prim.Native.Nat.{◌-◌}
use lib.ListN.{length}
use Rattle.forf_groups.proofs.count_items.Given as goal

abbrev pub invariant-loop-next : goal.invariant-loop-next
invariant-loop-next l = Counts l.script l.from l.at l.n

abbrev pub decreases-loop-next : goal.decreases-loop-next
decreases-loop-next l = length l.script - l.at
