-- `measure_name` meets its contract: the sum is the length of the text of the first j bytes.
-- Assumes nothing.
use Rattle.printing.proofs.Spelling.{NameSum}
use Rattle.printing.proofs.measure_name.Given as goal

abbrev pub invariant-loop-j : goal.invariant-loop-j
invariant-loop-j l = NameSum l.slot l.dict l.j l.sum
