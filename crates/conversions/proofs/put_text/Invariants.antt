-- `put_text` meets its contract: the loop keeps `Putting`, that the first q bytes of the text stand in front.
-- Assumes nothing.
use Rattle.conversions.proofs.Putting.{Putting}
use Rattle.conversions.proofs.put_text.Given as goal

abbrev pub invariant-loop-q : goal.invariant-loop-q
invariant-loop-q l = Putting l.text l.q l.m l.stack l.initial.cells l.cells
