-- `copy_elements` meets its contract: the loop keeps `Copied`, that the first q elements are copied.
-- Assumes nothing.
use Rattle.interval_operators.proofs.Moving.{Copied}
use Rattle.interval_operators.proofs.copy_elements.Given as goal

abbrev pub invariant-loop-q : goal.invariant-loop-q
invariant-loop-q l = Copied l.to l.at l.from l.start l.q l.initial.r l.r l.initial.stack l.stack l.initial.cells l.cells
