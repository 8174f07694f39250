-- `word::mul` meets its contract: the wrapping product of two words is the word of the product of their integers.
-- Assumes nothing.
use Rattle.std.proofs.Common.{sym}
use Rattle.word.proofs.Words.{word_mul}
use Rattle.word.proofs.mul.Goals as goal

pub returns : goal.returns
returns c = sym (word_mul _ _ c.ranges.a.fits c.ranges.b.fits)
