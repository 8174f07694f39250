-- `measure_name` meets its contract: the sum is the length of the text of the first j bytes.
-- Assumes nothing.
use Rattle.printing.proofs.Spelling.{sum_begin, name_few, sum_again, sum_ends}
use Rattle.names.proofs.Spelling.{named_inside}
use native.Mathlib.Omega.{arith}
use Rattle.printing.proofs.measure_name.Goals as goal

pub name_size-n-requires : goal.name_size-n-requires
name_size-n-requires c = named_inside c.requires

pub loop-j-init : goal.loop-j-init
loop-j-init c = sum_begin _ _

pub name_byte-b-requires : goal.name_byte-b-requires
name_byte-b-requires c = (named_inside c.requires, omega (arith, c.loop-j-test.true, name_few c.name_size-n.ensures c.requires))

pub name_byte_length-sum-requires : goal.name_byte_length-sum-requires
name_byte_length-sum-requires c = tt

pub overflow_add-sum : goal.overflow_add-sum
overflow_add-sum c = omega (arith, c.loop-j.invariant.short, c.loop-j-test.true, name_few c.name_size-n.ensures c.requires, (sum_again c.name_size-n.ensures c.loop-j-test.true c.name_byte-b.ensures c.loop-j.invariant c.name_byte_length-sum.ensures).short)

pub loop-j-preserved : goal.loop-j-preserved
loop-j-preserved c = sum_again c.name_size-n.ensures c.loop-j-test.true c.name_byte-b.ensures c.loop-j.invariant c.name_byte_length-sum.ensures

pub returns : goal.returns
returns c = sum_ends c.name_size-n.ensures c.loop-j-test.false c.loop-j.invariant
