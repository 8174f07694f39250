-- `restart` meets its contract: what the slots and counts say bounds the heap.
-- Assumes nothing.
use Rattle.heap_counts.proofs.restart.Goals as goal

pub clear-requires : goal.clear-requires
clear-requires c = let F = c.requires.full in (F.heap.shape.few, F.counts.places.1)
