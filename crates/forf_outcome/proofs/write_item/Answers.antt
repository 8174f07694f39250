-- `forf_outcome::write_item` meets its contract: each way to an answer by its law.
-- Assumes nothing.
use Rattle.forf_outcome.proofs.Lining.{value_known, integer_room, substack_room, integer_feed, substack_feed, integer_line, substack_line}
use Rattle.semantics.specs.Text.{bytes}
use lib.ListN.{length-set}
use mathlib.Core.Path.{◌∙◌}
use native.Mathlib.Omega.{arith}
use Rattle.forf_outcome.proofs.write_item.Goals as goal

pub write_integer-after-requires : goal.write_integer-after-requires
unfolding bytes
write_integer-after-requires c = let pre = c.requires in
    integer_room pre.1 c.copy-next.auto.out c.copy-next.ensures _

pub bounds-out-after : goal.bounds-out-after
unfolding bytes
bounds-out-after c = let pre = c.requires in
    integer_feed pre.1 c.copy-next.auto.out c.write_integer-after.auto.out c.copy-next.ensures _ c.write_integer-after.ensures

pub overflow_add-result : goal.overflow_add-result
unfolding bytes
overflow_add-result c = let pre = c.requires in
    omega (arith, integer_feed pre.1 c.copy-next.auto.out c.write_integer-after.auto.out c.copy-next.ensures _ c.write_integer-after.ensures, c.write_integer-after.auto.out, c.copy-next.auto.out, c.well_formed)

pub shape_of-out-then-stack-i-eq-TAG_INTEGER : goal.shape_of-out-then-stack-i-eq-TAG_INTEGER
shape_of-out-then-stack-i-eq-TAG_INTEGER c = length-set c.write_integer-after.new.out c.write_integer-after.result 10 ∙ c.write_integer-after.auto.out ∙ c.copy-next.auto.out

pub returns-then-stack-i-eq-TAG_INTEGER : goal.returns-then-stack-i-eq-TAG_INTEGER
unfolding bytes
returns-then-stack-i-eq-TAG_INTEGER c = let pre = c.requires in
    integer_line pre.1 c.copy-next.auto.out c.write_integer-after.auto.out _ _ _ c.if-stack-i-eq-TAG_INTEGER.true c.copy-next.ensures c.write_integer-after.ensures

pub overflow_cast-payload : goal.overflow_cast-payload
overflow_cast-payload c = let pre = c.requires in
    omega (arith, (value_known _ _ _ pre.0 c.if-stack-i-eq-TAG_INTEGER.false).inside, pre.0.short)

pub count_items-n-requires : goal.count_items-n-requires
count_items-n-requires c = let pre = c.requires in
    (value_known _ _ _ pre.0 c.if-stack-i-eq-TAG_INTEGER.false, pre.0.short)

pub write_decimal-after-requires : goal.write_decimal-after-requires
unfolding bytes
write_decimal-after-requires c = let pre = c.requires in
    substack_room pre.1 c.copy-next-2.auto.out c.copy-next-2.ensures _

pub bounds-out-after-2 : goal.bounds-out-after-2
unfolding bytes
bounds-out-after-2 c = let pre = c.requires in
    substack_feed pre.1 c.copy-next-2.auto.out c.write_decimal-after.auto.out c.copy-next-2.ensures _ c.write_decimal-after.ensures

pub overflow_add-result-2 : goal.overflow_add-result-2
unfolding bytes
overflow_add-result-2 c = let pre = c.requires in
    omega (arith, substack_feed pre.1 c.copy-next-2.auto.out c.write_decimal-after.auto.out c.copy-next-2.ensures _ c.write_decimal-after.ensures, c.write_decimal-after.auto.out, c.copy-next-2.auto.out, c.well_formed)

pub shape_of-out : goal.shape_of-out
shape_of-out c = length-set c.write_decimal-after.new.out c.write_decimal-after.result 10 ∙ c.write_decimal-after.auto.out ∙ c.copy-next-2.auto.out

pub returns : goal.returns
unfolding bytes
returns c = let pre = c.requires in
    substack_line pre.1 c.copy-next-2.auto.out c.write_decimal-after.auto.out _ _ _ c.if-stack-i-eq-TAG_INTEGER.false c.count_items-n.ensures c.copy-next-2.ensures c.write_decimal-after.ensures
