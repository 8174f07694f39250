-- `forget_handlers` meets its contract: the loop keeps `Clearing`, that the first j rows have no handler and only last words of slots have changed.
-- Assumes nothing.
use Rattle.start.proofs.Unhandling.{Clearing}
use Rattle.start.proofs.forget_handlers.Given as goal

abbrev pub invariant-loop-j : goal.invariant-loop-j
invariant-loop-j l = Clearing l.initial.dict l.dict l.j
