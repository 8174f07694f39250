-- `agrees` meets its contract: the loop keeps `Agreeing`, that the words so far are the same, and words of the same bytes are equal.
-- Assumes nothing.
use Rattle.dictionary.proofs.Spelling.{Agreeing}
use Rattle.dictionary.proofs.agrees.Given as goal

abbrev pub invariant-loop-i : goal.invariant-loop-i
invariant-loop-i l = Agreeing l.dict l.at l.size l.words l.i
