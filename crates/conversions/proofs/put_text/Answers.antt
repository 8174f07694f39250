-- `put_text` meets its contract: the loop keeps `Putting`, that the first q bytes of the text stand in front.
-- Assumes nothing.
use Rattle.conversions.proofs.Putting.{begin, has_byte, again, finish}
use native.Mathlib.Omega.{arith}
use Rattle.conversions.proofs.put_text.Goals as goal

pub loop-q-init : goal.loop-q-init
loop-q-init c = begin _ c.requires.0 c.requires.2

pub overflow_cast-q : goal.overflow_cast-q
overflow_cast-q c = omega (arith, c.requires.1, c.loop-q-test.true)

pub bounds-text-q : goal.bounds-text-q
bounds-text-q c = c.loop-q-test.true

pub put_byte-requires : goal.put_byte-requires
put_byte-requires c = (omega (arith, c.requires.0), has_byte _ c.requires.0 c.requires.2 c.loop-q.invariant c.loop-q-test.true)

pub loop-q-preserved : goal.loop-q-preserved
loop-q-preserved c = again _ c.requires.0 c.requires.2 c.loop-q.invariant c.loop-q-test.true c.put_byte.ensures c.put_byte.auto.cells

pub shape_of-cells : goal.shape_of-cells
shape_of-cells c = c.loop-q.invariant.long

pub returns : goal.returns
returns c = finish c.loop-q.invariant c.loop-q-test.false
