-- `current_length` meets its contract: the loop keeps `Scanned`, that no byte before byte q is zero.
-- Assumes nothing.
use Rattle.strings.proofs.Currents.{Scanned}
use Rattle.strings.proofs.current_length.Given as goal

abbrev pub invariant-loop-q : goal.invariant-loop-q
invariant-loop-q l = Scanned l.i l.m l.stack l.cells l.q
