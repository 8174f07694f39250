-- `word::lowest` meets its contract: 0 has no bit that is 1, and the zeros below any other word's lowest end at it.
-- Assumes nothing.
use Rattle.std.proofs.Common.{sym, arith}
use Rattle.semantics.proofs.PegLaws.{lowest_none}
use Rattle.word.proofs.BitCounts.{trailing_is}
use Rattle.word.proofs.lowest.Goals as goal

pub returns-then-a-eq0 : goal.returns-then-a-eq0
returns-then-a-eq0 c = sym ((lowest_none 32 _ c.ranges.a.fits).1 c.if-a-eq0.true)

pub returns : goal.returns
returns c = trailing_is 32 _ (omega (arith, c.if-a-eq0.false)) c.ranges.a.fits
