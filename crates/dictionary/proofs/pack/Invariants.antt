-- `pack` meets its contract: the loop keeps `Packing`, that the first words spell the first bytes and the other words are as they were.
-- Assumes nothing.
use Rattle.dictionary.proofs.Spelling.{Packing}
use Rattle.dictionary.proofs.pack.Given as goal

abbrev pub invariant-loop-i : goal.invariant-loop-i
invariant-loop-i l = Packing l.name l.at l.initial.words l.words l.i
