-- `store_items` meets its contract: the loop keeps `Stored`, the elements put so far.
-- Assumes nothing.
use Rattle.array_operators.proofs.Storing.{Stored}
use Rattle.array_operators.proofs.store_items.Given as goal

abbrev pub invariant-loop-q : goal.invariant-loop-q
invariant-loop-q l = Stored l.i l.from l.n l.initial.r l.stack l.initial.cells l.r l.cells l.q
