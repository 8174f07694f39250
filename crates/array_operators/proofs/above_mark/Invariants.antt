-- `above_mark` meets its contract: the loop keeps `Searched`, that no item so far is a mark.
-- Assumes nothing.
use Rattle.array_operators.proofs.Marks.{Searched}
use Rattle.array_operators.proofs.above_mark.Given as goal

abbrev pub invariant-loop-n : goal.invariant-loop-n
invariant-loop-n l = Searched l.m l.stack l.n
