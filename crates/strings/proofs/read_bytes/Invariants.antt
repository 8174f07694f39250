-- `read_bytes` meets its contract: the loop keeps `Reads`, that the bytes before byte q are read.
-- Assumes nothing.
use Rattle.strings.proofs.Reading.{Reads}
use Rattle.strings.proofs.read_bytes.Given as goal

abbrev pub invariant-loop-q : goal.invariant-loop-q
invariant-loop-q l = Reads l.i l.n l.m l.stack l.cells l.initial.out l.out l.q
