-- `current_length` meets its contract: the loop keeps `Scanned`, that no byte before byte q is zero.
-- Assumes nothing.
use Rattle.strings.proofs.Currents.{begin, ends, stops, again}
use mathlib.Core.Path.{subst}
use native.Mathlib.Omega.{arith}
use Rattle.strings.specs.Strings.{CurrentSize}
use Rattle.elements.proofs.Strings.{has_byte}
use Rattle.strings.proofs.current_length.Goals as goal

pub maximum-most-requires : goal.maximum-most-requires
maximum-most-requires c = c.requires

pub loop-q-init : goal.loop-q-init
loop-q-init c = begin _ _ _ _

pub get_byte-requires : goal.get_byte-requires
get_byte-requires c = (c.requires.0, has_byte c.maximum-most.ensures c.requires.1 c.loop-q-test.true)

pub returns-then-get_byte-eq0 : goal.returns-then-get_byte-eq0
returns-then-get_byte-eq0 c = stops c.maximum-most.ensures c.loop-q.invariant c.loop-q-test.true c.get_byte.ensures c.if-get_byte-eq0.true

pub loop-q-preserved : goal.loop-q-preserved
loop-q-preserved c = again c.maximum-most.ensures c.loop-q.invariant c.loop-q-test.true c.get_byte.ensures c.if-get_byte-eq0.false

pub returns : goal.returns
returns c = subst (CurrentSize _ _ _ _) (omega (arith, c.loop-q-test.false, c.loop-q.auto.q-end)) (ends c.maximum-most.ensures c.loop-q.invariant c.loop-q-test.false)
