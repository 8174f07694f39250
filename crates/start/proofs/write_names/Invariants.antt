-- `write_names` meets its contract: the loop keeps `Filling`, that the first k slots are right and the rest of the list has the other names.
-- Assumes nothing.
use Rattle.start.proofs.Filling.{Filling}
use Rattle.start.proofs.write_names.Given as goal

abbrev pub invariant-loop-k : goal.invariant-loop-k
invariant-loop-k l = Filling l.list l.initial.dict l.dict l.at l.k
