-- `word::ones` meets its contract: the machine's count is the sum of the bits.
-- Assumes nothing.
use Rattle.word.proofs.BitCounts.{ones_is}
use Rattle.word.proofs.ones.Goals as goal

pub returns : goal.returns
returns c = ones_is 32 _ c.ranges.a.fits
