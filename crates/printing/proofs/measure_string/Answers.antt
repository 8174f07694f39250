-- `measure_string` meets its contract: the sum is the length of the text of the first q current bytes.
-- Assumes nothing.
use Rattle.printing.proofs.Bytes.{sum_begin, sum_again, sum_ends}
use native.Mathlib.Omega.{arith}
use Rattle.printing.proofs.measure_string.Goals as goal

pub current_size-n-requires : goal.current_size-n-requires
current_size-n-requires c = c.requires

pub loop-q-init : goal.loop-q-init
loop-q-init c = sum_begin _ _

pub string_byte-b-requires : goal.string_byte-b-requires
string_byte-b-requires c = (omega (arith, c.loop-q-test.true, c.current_size-n.ensures.upper_bound), c.requires)

pub string_byte_length-sum-requires : goal.string_byte_length-sum-requires
string_byte_length-sum-requires c = tt

pub overflow_add-sum : goal.overflow_add-sum
overflow_add-sum c = omega (arith, c.loop-q.invariant.short, c.loop-q-test.true, (sum_again c.current_size-n.ensures.current_size c.loop-q-test.true c.string_byte-b.ensures c.loop-q.invariant c.string_byte_length-sum.ensures).short)

pub loop-q-preserved : goal.loop-q-preserved
loop-q-preserved c = sum_again c.current_size-n.ensures.current_size c.loop-q-test.true c.string_byte-b.ensures c.loop-q.invariant c.string_byte_length-sum.ensures

pub returns : goal.returns
returns c = sum_ends c.current_size-n.ensures.current_size c.loop-q-test.false c.loop-q.invariant
