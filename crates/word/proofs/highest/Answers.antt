-- `word::highest` meets its contract: 0 has no bit that is 1, and any other word's highest is its logarithm.
-- Assumes nothing.
use Rattle.std.proofs.Common.{sym}
use Rattle.semantics.proofs.PegLaws.{highest_none}
use Rattle.word.proofs.BitCounts.{highest_is}
use Rattle.word.proofs.highest.Goals as goal

pub returns-then-a-eq0 : goal.returns-then-a-eq0
returns-then-a-eq0 c = sym ((highest_none 32 _ c.ranges.a.fits).1 c.if-a-eq0.true)

pub returns : goal.returns
returns c = let r = c.ilog2.ensures in
    highest_is 32 _ _ r.bound r.power_le r.next_power_gt
