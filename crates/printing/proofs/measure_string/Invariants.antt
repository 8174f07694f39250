-- `measure_string` meets its contract: the sum is the length of the text of the first q current bytes.
-- Assumes nothing.
use Rattle.printing.proofs.Bytes.{StringSum}
use Rattle.printing.proofs.measure_string.Given as goal

abbrev pub invariant-loop-q : goal.invariant-loop-q
invariant-loop-q l = StringSum l.cells l.h l.q l.sum
