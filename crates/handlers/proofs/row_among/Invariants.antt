-- `row_among` meets its contract: the loop keeps `Searching`, that no name before is the slot's.
-- Assumes nothing.
use Rattle.handlers.proofs.Errors.{Searching}
use Rattle.handlers.proofs.row_among.Given as goal

abbrev pub invariant-loop-j : goal.invariant-loop-j
invariant-loop-j l = Searching l.list l.dict l.slot l.at l.j
