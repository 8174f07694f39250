-- `write_value` meets its contract: by the tag, which says what follows the kind.
-- Assumes nothing.
use mathlib.Core.Path.{◌∙◌}
use native.Mathlib.Omega.{arith}
use Rattle.outcome.proofs.Valuing.{mark_written, sizes_room, string_somewhere, string_written, array_somewhere, count_room, array_written, operator_room, operator_written, plain_room, plain_written}
use Rattle.outcome.proofs.write_value.Goals as goal

pub overflow_sub-k : goal.overflow_sub-k
overflow_sub-k c = omega (arith, c.requires.1.inside, c.requires.1.rep.rooms.stack_fits, c.requires.1.rep.rooms.stack_few)

pub overflow_sub-k-2 : goal.overflow_sub-k-2
overflow_sub-k-2 c = omega (arith, c.requires.1.inside, c.requires.1.rep.rooms.stack_fits, c.requires.1.rep.rooms.stack_few)

pub overflow_mul-tag : goal.overflow_mul-tag
overflow_mul-tag c = omega (arith, c.requires.1.inside, c.requires.1.rep.rooms.stack_fits, c.requires.1.rep.rooms.stack_few)

pub offset_bounds-stack-k : goal.offset_bounds-stack-k
offset_bounds-stack-k c = omega (arith, c.requires.1.inside, c.requires.1.rep.rooms.stack_fits, c.requires.1.rep.rooms.stack_few)

pub bounds-stack-k : goal.bounds-stack-k
bounds-stack-k c = omega (arith, c.requires.1.inside, c.requires.1.rep.rooms.stack_fits, c.requires.1.rep.rooms.stack_few)

pub overflow_mul-pay : goal.overflow_mul-pay
overflow_mul-pay c = omega (arith, c.requires.1.inside, c.requires.1.rep.rooms.stack_fits, c.requires.1.rep.rooms.stack_few)

pub overflow_add-pay : goal.overflow_add-pay
overflow_add-pay c = omega (arith, c.requires.1.inside, c.requires.1.rep.rooms.stack_fits, c.requires.1.rep.rooms.stack_few)

pub offset_bounds-stack-k-2 : goal.offset_bounds-stack-k-2
offset_bounds-stack-k-2 c = omega (arith, c.requires.1.inside, c.requires.1.rep.rooms.stack_fits, c.requires.1.rep.rooms.stack_few)

pub bounds-stack-k-2 : goal.bounds-stack-k-2
bounds-stack-k-2 c = omega (arith, c.requires.1.inside, c.requires.1.rep.rooms.stack_fits, c.requires.1.rep.rooms.stack_few)

pub write_kind-next-requires : goal.write_kind-next-requires
write_kind-next-requires c = omega (arith, c.requires.0)

pub shape_of-out-then-tag-eq-TAG_MARK : goal.shape_of-out-then-tag-eq-TAG_MARK
shape_of-out-then-tag-eq-TAG_MARK c = c.write_kind-next.auto.out

pub returns-then-tag-eq-TAG_MARK : goal.returns-then-tag-eq-TAG_MARK
returns-then-tag-eq-TAG_MARK c = mark_written c.requires.1 c.requires.0 c.write_kind-next.ensures c.write_kind-next.auto.out c.if-tag-eq-TAG_MARK.true

pub write_sizes-requires : goal.write_sizes-requires
write_sizes-requires c = (sizes_room c.requires.1 c.requires.0 c.write_kind-next.ensures c.write_kind-next.auto.out c.if-tag-eq-TAG_STRING.true, c.requires.1.inside, string_somewhere c.requires.1 c.requires.0 c.write_kind-next.ensures c.write_kind-next.auto.out c.if-tag-eq-TAG_STRING.true)

pub shape_of-out-then-tag-eq-TAG_STRING : goal.shape_of-out-then-tag-eq-TAG_STRING
shape_of-out-then-tag-eq-TAG_STRING c = c.write_sizes.auto.out ∙ c.write_kind-next.auto.out

pub returns-then-tag-eq-TAG_STRING : goal.returns-then-tag-eq-TAG_STRING
returns-then-tag-eq-TAG_STRING c = string_written c.requires.1 c.requires.0 c.write_kind-next.ensures c.write_kind-next.auto.out c.if-tag-eq-TAG_STRING.true c.write_sizes.ensures

pub size_of-n-requires : goal.size_of-n-requires
size_of-n-requires c = (c.requires.1.inside, array_somewhere c.requires.1 c.requires.0 c.write_kind-next.ensures c.write_kind-next.auto.out c.if-tag-ge-TAG_ARRAY.true)

pub write_decimal-requires : goal.write_decimal-requires
write_decimal-requires c = count_room c.requires.1 c.requires.0 c.write_kind-next.ensures c.write_kind-next.auto.out c.if-tag-ge-TAG_ARRAY.true c.size_of-n.ensures

pub shape_of-out-then-tag-ge-TAG_ARRAY : goal.shape_of-out-then-tag-ge-TAG_ARRAY
shape_of-out-then-tag-ge-TAG_ARRAY c = c.write_decimal.auto.out ∙ c.write_kind-next.auto.out

pub returns-then-tag-ge-TAG_ARRAY : goal.returns-then-tag-ge-TAG_ARRAY
returns-then-tag-ge-TAG_ARRAY c = array_written c.requires.1 c.requires.0 c.write_kind-next.ensures c.write_kind-next.auto.out c.if-tag-ge-TAG_ARRAY.true c.size_of-n.ensures c.write_decimal.ensures

pub write-requires : goal.write-requires
write-requires c = operator_room c.requires.1 c.requires.0 c.write_kind-next.ensures c.write_kind-next.auto.out c.if-tag-eq-TAG_OPERATOR.true

pub shape_of-out-then-tag-eq-TAG_OPERATOR : goal.shape_of-out-then-tag-eq-TAG_OPERATOR
shape_of-out-then-tag-eq-TAG_OPERATOR c = c.write.auto.log ∙ c.write_kind-next.auto.out

pub returns-then-tag-eq-TAG_OPERATOR : goal.returns-then-tag-eq-TAG_OPERATOR
returns-then-tag-eq-TAG_OPERATOR c = operator_written c.requires.1 c.requires.0 c.write_kind-next.ensures c.write_kind-next.auto.out c.if-tag-eq-TAG_OPERATOR.true c.write.ensures

pub write-requires-2 : goal.write-requires-2
write-requires-2 c = plain_room c.requires.1 c.requires.0 c.write_kind-next.ensures c.write_kind-next.auto.out c.if-tag-ge-TAG_ARRAY.false c.if-tag-eq-TAG_STRING.false c.if-tag-eq-TAG_MARK.false c.if-tag-eq-TAG_OPERATOR.false

pub shape_of-out : goal.shape_of-out
shape_of-out c = c.write-2.auto.log ∙ c.write_kind-next.auto.out

pub returns : goal.returns
returns c = plain_written c.requires.1 c.requires.0 c.write_kind-next.ensures c.write_kind-next.auto.out c.if-tag-ge-TAG_ARRAY.false c.if-tag-eq-TAG_STRING.false c.if-tag-eq-TAG_MARK.false c.if-tag-eq-TAG_OPERATOR.false c.write-2.ensures
