-- `drop_items` meets its contract: the loop keeps `Dropped`, the items gone so far.
-- Assumes nothing.
use Rattle.array_operators.proofs.Dropping.{Dropped}
use Rattle.array_operators.proofs.drop_items.Given as goal

abbrev pub invariant-loop : goal.invariant-loop
invariant-loop l = Dropped l.initial.r l.stack l.initial.cells l.r l.cells l.counter
