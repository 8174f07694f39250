-- `write_stack` meets its contract: the first i items are written, each with the byte after it.
-- Assumes nothing.
use Rattle.output_operators.proofs.Lines.{lined_begin, lined_ends, item_fits, feed_fits, lined_again}
use Rattle.output_operators.proofs.Returns.{stack_room}
use native.Mathlib.Omega.{arith}
use Rattle.output_operators.proofs.write_stack.Goals as goal

pub loop-i-init : goal.loop-i-init
loop-i-init c = (omega arith, lined_begin _ _ _ _ _)

pub overflow_mul-tag : goal.overflow_mul-tag
overflow_mul-tag c = omega (arith, c.loop-i-test.true, stack_room c.requires.1.somewhere, c.well_formed.1.0.0, c.well_formed.1.0.1)

pub offset_bounds-stack-i : goal.offset_bounds-stack-i
offset_bounds-stack-i c = omega (arith, c.loop-i-test.true, stack_room c.requires.1.somewhere, c.well_formed.1.0.0, c.well_formed.1.0.1)

pub bounds-stack-i : goal.bounds-stack-i
bounds-stack-i c = omega (arith, c.loop-i-test.true, stack_room c.requires.1.somewhere)

pub overflow_mul-pay : goal.overflow_mul-pay
overflow_mul-pay c = omega (arith, c.loop-i-test.true, stack_room c.requires.1.somewhere, c.well_formed.1.0.0, c.well_formed.1.0.1)

pub overflow_add-pay : goal.overflow_add-pay
overflow_add-pay c = omega (arith, c.loop-i-test.true, stack_room c.requires.1.somewhere, c.well_formed.1.0.0, c.well_formed.1.0.1)

pub offset_bounds-stack-i-in-loop-i : goal.offset_bounds-stack-i-in-loop-i
offset_bounds-stack-i-in-loop-i c = omega (arith, c.loop-i-test.true, stack_room c.requires.1.somewhere, c.well_formed.1.0.0, c.well_formed.1.0.1)

pub bounds-stack-i-in-loop-i : goal.bounds-stack-i-in-loop-i
bounds-stack-i-in-loop-i c = omega (arith, c.loop-i-test.true, stack_room c.requires.1.somewhere)

pub write-next-requires : goal.write-next-requires
write-next-requires c = item_fits c.requires.0 c.requires.1 c.loop-i.invariant.1 c.loop-i-test.true

pub overflow_sub-m : goal.overflow_sub-m
overflow_sub-m c = omega (arith, c.loop-i-test.true)

pub feed-requires : goal.feed-requires
feed-requires c = tt

pub bounds-log-next : goal.bounds-log-next
bounds-log-next c = feed_fits c.requires.0 c.requires.1 c.loop-i.invariant.1 c.loop-i-test.true c.write-next.ensures c.write-next.auto.log

pub overflow_add-next : goal.overflow_add-next
overflow_add-next c = omega (arith, feed_fits c.requires.0 c.requires.1 c.loop-i.invariant.1 c.loop-i-test.true c.write-next.ensures c.write-next.auto.log, c.write-next.auto.log, c.loop-i.invariant.1.long, c.well_formed.1.1.1.1.0.0)

pub loop-i-preserved : goal.loop-i-preserved
loop-i-preserved c = (omega (arith, c.loop-i-test.true), lined_again c.requires.0 c.requires.1 c.loop-i.invariant.1 c.loop-i-test.true c.write-next.ensures c.write-next.auto.log c.feed.ensures)

pub shape_of-log : goal.shape_of-log
shape_of-log c = c.loop-i.invariant.1.long

pub returns : goal.returns
returns c = lined_ends c.requires.0 c.requires.1 c.loop-i.invariant.1 (omega (arith, c.loop-i.invariant.0, c.loop-i-test.false))
