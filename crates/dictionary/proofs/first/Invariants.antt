-- `first` meets its contract: the loop keeps `Passed`, that no slot so far agrees.
-- Assumes nothing.
use Rattle.dictionary.proofs.Spelling.{Passed}
use Rattle.dictionary.proofs.first.Given as goal

abbrev pub invariant-loop-k : goal.invariant-loop-k
invariant-loop-k l = Passed l.dict l.n l.size l.words l.k
