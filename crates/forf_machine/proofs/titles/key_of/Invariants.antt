-- `forf_machine::titles::key_of` meets its contract. The loop's invariant: the key is that of the bytes so far.
-- Assumes nothing.
use Rattle.forf_machine.proofs.Naming.{Keyed}
use Rattle.forf_machine.proofs.titles.key_of.Given as goal

abbrev pub invariant-loop-b : goal.invariant-loop-b
invariant-loop-b l = Keyed l.word l.key l.b-index
