-- `copy_up` meets its contract: the loop keeps `Copied`, that the first j bytes are copied.
-- Assumes nothing.
use Rattle.strings.proofs.Copying.{small_target, small_source, begin_up, source_byte, target_byte, again_up, finish_up}
use native.Mathlib.Omega.{arith}
use Rattle.strings.proofs.copy_up.Goals as goal

pub loop-j-init : goal.loop-j-init
loop-j-init c = (omega arith, begin_up c.requires.1 c.requires.2 c.requires.3)

pub overflow_add-start : goal.overflow_add-start
overflow_add-start c = omega (arith, c.loop-j-test.true, small_source c.requires.1 c.requires.2 c.requires.3)

pub get_byte-b-requires : goal.get_byte-b-requires
get_byte-b-requires c = (c.requires.2, source_byte c.requires.1 c.requires.2 c.requires.3 c.loop-j.invariant.1 (omega (arith, c.loop-j.invariant.0)) (omega (arith, c.loop-j.invariant.0)) _ (omega (arith, c.loop-j-test.true)))

pub overflow_add-at : goal.overflow_add-at
overflow_add-at c = omega (arith, c.loop-j-test.true, small_target c.requires.1 c.requires.2 c.requires.3)

pub put_byte-requires : goal.put_byte-requires
put_byte-requires c = (c.requires.1, target_byte c.requires.1 c.requires.2 c.requires.3 c.loop-j.invariant.1 (omega (arith, c.loop-j.invariant.0)) (omega (arith, c.loop-j.invariant.0)) _ (omega (arith, c.loop-j-test.true)))

pub loop-j-preserved : goal.loop-j-preserved
loop-j-preserved c = (omega (arith, c.loop-j-test.true), again_up c.requires.1 c.requires.2 c.requires.3 c.loop-j.invariant.1 c.requires.0 c.loop-j-test.true c.get_byte-b.ensures c.put_byte.ensures c.put_byte.auto.cells)

pub shape_of-cells : goal.shape_of-cells
shape_of-cells c = c.loop-j.invariant.1.long

pub returns : goal.returns
returns c = finish_up c.loop-j.invariant.1 c.loop-j.invariant.0 c.loop-j-test.false
