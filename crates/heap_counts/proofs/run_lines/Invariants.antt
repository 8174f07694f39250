-- The slots are in order after each line. The measure is what is left of the script.
-- Assumes nothing.
use Rattle.std.proofs.Common.{length}
use Rattle.heap_counts.specs.Slots.{Slots}
use Rattle.heap_counts.proofs.run_lines.Given as goal

abbrev pub invariant-loop-after : goal.invariant-loop-after
invariant-loop-after g l = Slots l.s l.slots l.m

abbrev pub decreases-loop-after : goal.decreases-loop-after
decreases-loop-after g l = length l.rest
