-- `word::shift_right` meets its contract: the machine's shift by the count, or by 31 where it is more.
-- Assumes nothing.
use Rattle.semantics.specs.Words.{signed}
use Rattle.word.proofs.Shifts.{right}
use Rattle.word.proofs.shift_right.Goals as goal

pub returns : goal.returns
unfolding signed
returns c = right _ _ c.ranges.a c.cast_signed.ensures c.min.ensures c.cast_unsigned.ensures
