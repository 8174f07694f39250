-- `word::le` meets its contract: the machine's test of two words that were read as integers is the definition's.
-- Assumes nothing.
use lib.Signed.{le_z}
use Rattle.semantics.specs.Words.{signed}
use Rattle.word.proofs.Signed.{on_signed}
use Rattle.word.proofs.le.Goals as goal

pub returns : goal.returns
unfolding signed
returns c = on_signed le_z _ _ _ _ c.ranges.a c.ranges.b c.cast_signed.ensures c.cast_signed-2.ensures
