-- `read_name` meets its contract: the loop keeps `Reads`, that the first j bytes are the name's.
-- Assumes nothing.
use Rattle.conversions.proofs.Reading.{Reads}
use Rattle.conversions.proofs.read_name.Given as goal

abbrev pub invariant-loop-j : goal.invariant-loop-j
invariant-loop-j l = Reads l.slot l.dict l.initial.out l.out l.j
