-- `current_size` meets its contract: the loop keeps `Scanned`, that no byte before byte q is zero.
-- Assumes nothing.
use Rattle.printing.proofs.Bytes.{Scanned}
use Rattle.printing.proofs.current_size.Given as goal

abbrev pub invariant-loop-q : goal.invariant-loop-q
invariant-loop-q l = Scanned l.cells l.h l.q
