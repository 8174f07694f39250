-- `forf_machine::perform` meets its contract: the word of a number does what the definition's table has at its place.
-- Assumes nothing.
use Rattle.forf_machine.proofs.Naming.{by_number}
use Rattle.forf_machine.proofs.perform.Goals as goal

pub returns : goal.returns
returns c = by_number _ _ _ _ _ _ c.word_at.ensures c.perform_word.ensures
