-- `word::idiv` meets its contract: by zero there is none, and elsewhere the machine's wrapping quotient is the definition's.
-- Assumes nothing.
use lib.Signed.{quot_z}
use Rattle.semantics.specs.Words.{signed}
use Rattle.word.proofs.Division.{by_zero, quotient}
use Rattle.word.proofs.idiv.Goals as goal

pub returns-then-b-eq0 : goal.returns-then-b-eq0
returns-then-b-eq0 c = by_zero quot_z _ _ c.if-b-eq0.true

pub returns : goal.returns
unfolding signed
returns c = quotient c.ranges.a c.ranges.b c.cast_signed.ensures c.cast_signed-2.ensures c.if-b-eq0.false c.wrapping_div-quotient.ensures c.cast_unsigned.ensures
