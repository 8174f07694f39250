-- `write_operator` meets its contract: the first j bytes of the name are written.
-- Assumes nothing.
use Rattle.printing.proofs.Spelling.{title_begin, name_few, title_fits, title_again, title_ends}
use Rattle.names.proofs.Spelling.{named_inside}
use Rattle.semantics.specs.Text.{bytes}
use lib.ListN.{length-set}
use mathlib.Core.Path.{◌∙◌}
use native.Mathlib.Omega.{arith}
use Rattle.printing.proofs.write_operator.Goals as goal

pub name_size-n-requires : goal.name_size-n-requires
name_size-n-requires c = named_inside c.requires.named

pub copy-start-requires : goal.copy-start-requires
copy-start-requires c = omega (arith, title_fits c.name_size-n.ensures c.requires)

pub loop-j-init : goal.loop-j-init
loop-j-init c = (omega arith, title_begin _ _ _ _)

pub name_byte-b-requires : goal.name_byte-b-requires
name_byte-b-requires c = (named_inside c.requires.named, omega (arith, c.loop-j-test.true, name_few c.name_size-n.ensures c.requires.named))

pub overflow_add-log : goal.overflow_add-log
overflow_add-log c = omega (arith, title_fits c.name_size-n.ensures c.requires, c.copy-start.ensures.end, c.loop-j-test.true, c.ranges)

pub bounds-log-start : goal.bounds-log-start
bounds-log-start c = omega (arith, title_fits c.name_size-n.ensures c.requires, c.copy-start.ensures.end, c.loop-j-test.true, c.copy-start.auto.out, c.loop-j.invariant.1.long)

pub loop-j-preserved : goal.loop-j-preserved
loop-j-preserved c = (omega (arith, c.loop-j-test.true), title_again c.name_size-n.ensures c.requires c.loop-j-test.true (omega (arith, title_fits c.name_size-n.ensures c.requires, c.copy-start.ensures.end, c.copy-start.auto.out)) c.name_byte-b.ensures c.loop-j.invariant.1)

pub overflow_add-log-2 : goal.overflow_add-log-2
overflow_add-log-2 c = omega (arith, title_fits c.name_size-n.ensures c.requires, c.copy-start.ensures.end)

pub bounds-log-start-2 : goal.bounds-log-start-2
bounds-log-start-2 c = omega (arith, title_fits c.name_size-n.ensures c.requires, c.copy-start.ensures.end, c.copy-start.auto.out, c.loop-j.invariant.1.long)

pub overflow_add-result : goal.overflow_add-result
overflow_add-result c = omega (arith, title_fits c.name_size-n.ensures c.requires, c.copy-start.ensures.end)

pub overflow_add-result-2 : goal.overflow_add-result-2
overflow_add-result-2 c = omega (arith, title_fits c.name_size-n.ensures c.requires, c.copy-start.ensures.end)

pub shape_of-log : goal.shape_of-log
shape_of-log c = length-set c.loop-j.log _ _ ∙ c.loop-j.invariant.1.long ∙ c.copy-start.auto.out

pub returns : goal.returns
unfolding bytes
returns c = title_ends c.name_size-n.ensures c.requires (omega (arith, c.loop-j-test.false, c.loop-j.invariant.0)) c.copy-start.ensures c.loop-j.invariant.1 c.copy-start.auto.out
