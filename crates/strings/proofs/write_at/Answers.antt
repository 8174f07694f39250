-- `write_at` meets its contract: the loop keeps `Writing`, that the first q bytes stand in front.
-- Assumes nothing.
use native.Mathlib.Omega.{arith}
use Rattle.strings.proofs.Filling.{room_few, room_next}
use Rattle.strings.proofs.Writing.{begin, again, finish}
use lib.Seq.{length-take-le}
use Rattle.strings.proofs.write_at.Goals as goal

pub loop-q-init : goal.loop-q-init
loop-q-init c = begin _ _ _

pub overflow_cast-q : goal.overflow_cast-q
overflow_cast-q c = omega (arith, room_few c.requires, c.loop-q-test.true)

pub put_byte_at-requires : goal.put_byte_at-requires
put_byte_at-requires c = let less = c.loop-q-test.true in
    room_next c.requires c.loop-q.invariant.fills (length-take-le _ _ c.loop-q.invariant.low) less

pub loop-q-preserved : goal.loop-q-preserved
loop-q-preserved c = again c.loop-q.invariant c.loop-q-test.true c.put_byte_at.ensures c.put_byte_at.auto.cells

pub shape_of-cells : goal.shape_of-cells
shape_of-cells c = c.loop-q.invariant.long

pub returns : goal.returns
returns c = finish c.loop-q-test.false c.loop-q.invariant
