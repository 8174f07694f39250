-- The first i records stand in the book, and the others are left from `at` on.
-- Assumes nothing.
use Rattle.ledger_reader.proofs.Filling.{Filling}
use Rattle.ledger_reader.proofs.fill.Given as goal

abbrev pub invariant-loop-i : goal.invariant-loop-i
invariant-loop-i l = Filling l.text l.start l.count l.initial.book l.i l.at l.book
