-- `word::sub` meets its contract: the wrapping difference of two words is the word of the difference of their integers.
-- Assumes nothing.
use Rattle.std.proofs.Common.{sym, arith}
use Rattle.word.proofs.Words.{word_sub}
use Rattle.word.proofs.sub.Goals as goal

pub returns : goal.returns
returns c = sym (word_sub _ _ _ c.ranges.a.fits c.ranges.b.fits (omega arith) (omega (arith, c.ranges.a.fits, c.ranges.b.fits)))
