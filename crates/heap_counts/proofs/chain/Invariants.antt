-- `chain` meets its contract: each array more keeps what the slots and the counts say; those to come are counted down.
-- Assumes nothing.
use Rattle.heap_counts.specs.Slots.{Slots}
use Rattle.heap_counts.proofs.chain.Given as goal

abbrev pub invariant-loop : goal.invariant-loop
invariant-loop l = Slots l.r l.slots l.m
