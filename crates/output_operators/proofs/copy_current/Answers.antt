-- `copy_current` meets its contract: the first q current bytes are written.
-- Assumes nothing.
use Rattle.output_operators.proofs.Copying.{copied_begin, has_byte, copied_again, copied_ends}
use native.Mathlib.Omega.{arith}
use Rattle.output_operators.proofs.copy_current.Goals as goal

pub loop-q-init : goal.loop-q-init
loop-q-init c = (omega arith, copied_begin _ _ _ _)

pub get_byte-b-requires : goal.get_byte-b-requires
get_byte-b-requires c = (c.requires.0, has_byte c.requires.2 c.requires.1 c.loop-q-test.true)

pub overflow_cast-log : goal.overflow_cast-log
overflow_cast-log c = omega arith

pub overflow_add-log : goal.overflow_add-log
overflow_add-log c = omega (arith, c.requires.3, c.loop-q-test.true)

pub bounds-log-at : goal.bounds-log-at
bounds-log-at c = omega (arith, c.requires.3, c.loop-q-test.true, c.loop-q.invariant.1.long)

pub loop-q-preserved : goal.loop-q-preserved
loop-q-preserved c = (omega (arith, c.loop-q-test.true), copied_again c.requires.2 c.loop-q.invariant.1 c.requires.3 c.loop-q-test.true c.get_byte-b.ensures)

pub shape_of-log : goal.shape_of-log
shape_of-log c = c.loop-q.invariant.1.long

pub returns : goal.returns
returns c = copied_ends c.requires.2 c.loop-q.invariant.1 c.requires.3 (omega (arith, c.loop-q.invariant.0, c.loop-q-test.false))
