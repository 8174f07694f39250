-- `stack_fits` meets its contract: the sum is the length of the text of the first i items, each with the byte after it.
-- Assumes nothing.
use Rattle.output_operators.proofs.Lines.{item_known, summed_begin, summed_ends, summed_over, summed_again}
use Rattle.output_operators.proofs.Returns.{stack_room}
use native.Mathlib.Omega.{arith}
use Rattle.output_operators.proofs.stack_fits.Goals as goal

pub loop-i-init : goal.loop-i-init
loop-i-init c = (omega arith, omega arith, summed_begin _ _ _ _)

pub overflow_mul-tag : goal.overflow_mul-tag
overflow_mul-tag c = omega (arith, c.loop-i-test.true, stack_room c.requires.1.1, c.well_formed.1.0.0, c.well_formed.1.0.1)

pub offset_bounds-stack-i : goal.offset_bounds-stack-i
offset_bounds-stack-i c = omega (arith, c.loop-i-test.true, stack_room c.requires.1.1, c.well_formed.1.0.0, c.well_formed.1.0.1)

pub bounds-stack-i : goal.bounds-stack-i
bounds-stack-i c = omega (arith, c.loop-i-test.true, stack_room c.requires.1.1)

pub overflow_mul-pay : goal.overflow_mul-pay
overflow_mul-pay c = omega (arith, c.loop-i-test.true, stack_room c.requires.1.1, c.well_formed.1.0.0, c.well_formed.1.0.1)

pub overflow_add-pay : goal.overflow_add-pay
overflow_add-pay c = omega (arith, c.loop-i-test.true, stack_room c.requires.1.1, c.well_formed.1.0.0, c.well_formed.1.0.1)

pub offset_bounds-stack-i-in-loop-i : goal.offset_bounds-stack-i-in-loop-i
offset_bounds-stack-i-in-loop-i c = omega (arith, c.loop-i-test.true, stack_room c.requires.1.1, c.well_formed.1.0.0, c.well_formed.1.0.1)

pub bounds-stack-i-in-loop-i : goal.bounds-stack-i-in-loop-i
bounds-stack-i-in-loop-i c = omega (arith, c.loop-i-test.true, stack_room c.requires.1.1)

pub overflow_sub-left : goal.overflow_sub-left
overflow_sub-left c = omega (arith, c.loop-i.invariant.1)

pub measure-k-requires : goal.measure-k-requires
measure-k-requires c = item_known c.requires.1.1 c.loop-i.i c.loop-i-test.true

pub returns-then-left-k : goal.returns-then-left-k
returns-then-left-k c = summed_over c.requires.0 c.loop-i.invariant.1 c.loop-i.invariant.2 c.loop-i-test.true c.measure-k.ensures c.if-left-k.true

pub overflow_add-sum : goal.overflow_add-sum
overflow_add-sum c = omega (arith, c.loop-i.invariant.1, c.if-left-k.false, c.ranges.room)

pub overflow_add-sum-in-loop-i : goal.overflow_add-sum-in-loop-i
overflow_add-sum-in-loop-i c = omega (arith, c.loop-i.invariant.1, c.if-left-k.false, c.ranges.room)

pub loop-i-preserved : goal.loop-i-preserved
loop-i-preserved c = (omega (arith, c.loop-i-test.true), omega (arith, c.loop-i.invariant.1, c.if-left-k.false), summed_again c.requires.0 c.loop-i.invariant.1 c.loop-i.invariant.2 c.loop-i-test.true c.measure-k.ensures c.if-left-k.false)

pub returns : goal.returns
returns c = summed_ends c.requires.0 c.loop-i.invariant.1 c.loop-i.invariant.2 (omega (arith, c.loop-i.invariant.0, c.loop-i-test.false))
