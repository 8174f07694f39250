-- `blank_from` meets its contract: the loop keeps `Seeking`, that no blank has been passed.
-- Assumes nothing.
use Rattle.dictionary.proofs.Blanks.{Seeking}
use Rattle.dictionary.proofs.blank_from.Given as goal

abbrev pub invariant-loop-end : goal.invariant-loop-end
invariant-loop-end l = Seeking l.list l.at l.end
