-- `word::rem` meets its contract: by zero there is none, and elsewhere the machine's wrapping remainder is the definition's.
-- Assumes nothing.
use lib.Signed.{rem_z}
use Rattle.semantics.specs.Words.{signed}
use Rattle.word.proofs.Division.{by_zero, remainder}
use Rattle.word.proofs.rem.Goals as goal

pub returns-then-b-eq0 : goal.returns-then-b-eq0
returns-then-b-eq0 c = by_zero rem_z _ _ c.if-b-eq0.true

pub returns : goal.returns
unfolding signed
returns c = remainder c.ranges.a c.ranges.b c.cast_signed.ensures c.cast_signed-2.ensures c.if-b-eq0.false c.wrapping_rem-remainder.ensures c.cast_unsigned.ensures
