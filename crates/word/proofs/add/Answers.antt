-- `word::add` meets its contract: the wrapping sum of two words is the word of the sum of their integers.
-- Assumes nothing.
use Rattle.std.proofs.Common.{sym}
use Rattle.word.proofs.Words.{word_add}
use Rattle.word.proofs.add.Goals as goal

pub returns : goal.returns
returns c = sym (word_add _ _ c.ranges.a.fits c.ranges.b.fits)
