-- `put_elements` meets its contract: the mark, the start and both sizes decide between invalidaccess, rangecheck and what `copy_elements` and the drops do.
-- Assumes nothing.
use native.Mathlib.Omega.{arith}
use mathlib.Core.Logic.{inr}
use mathlib.Core.Path.{◌∙◌}
use Rattle.machine.proofs.Outcomes.{elsewhere}
use Rattle.interval_operators.proofs.Putting.{put_elements_refused, put_elements_negative, put_elements_outside, put_elements_done}
use Rattle.interval_operators.proofs.Asking.{small_array, copies_elements, whole_size}
use borrow.Author.Rules.{rules}
use Rattle.elements.proofs.Tags.{array_there}
use Rattle.elements.proofs.Tags.{object_there}
use Rattle.interval_operators.proofs.put_elements.Goals as goal

pub is_sealed-requires : goal.is_sealed-requires
is_sealed-requires c = let pre = c.requires in
    (omega (arith, pre.0), object_there pre.1.2 (omega (arith, pre.1.1)) pre.4)

pub returns-then-is_sealed : goal.returns-then-is_sealed
returns-then-is_sealed c = let pre = c.requires in
    put_elements_refused pre.0 c.integer_at-start.ensures pre.2 pre.1 pre.3 c.is_sealed.ensures c.if-is_sealed.true

pub returns-then-start-ge-SIGN : goal.returns-then-start-ge-SIGN
returns-then-start-ge-SIGN c = let pre = c.requires in
    put_elements_negative pre.0 c.integer_at-start.ensures pre.2 pre.1 pre.3 c.is_sealed.ensures c.if-is_sealed.false c.if-start-ge-SIGN.true (search rules)

pub size_of-n-requires : goal.size_of-n-requires
size_of-n-requires c = let pre = c.requires in
    (omega (arith, pre.0), array_there pre.3 pre.4)

pub size_of-requires : goal.size_of-requires
size_of-requires c = let pre = c.requires in
    (omega (arith, pre.0), array_there pre.1 pre.4)

pub overflow_add-start : goal.overflow_add-start
overflow_add-start c = let pre = c.requires in
    let few = small_array (omega (arith, pre.0)) (array_there pre.3 pre.4) c.size_of-n.ensures in omega (arith, few, c.if-start-ge-SIGN.false)

pub returns-then-size_of-start : goal.returns-then-size_of-start
returns-then-size_of-start c = let pre = c.requires in
    put_elements_outside pre.0 c.integer_at-start.ensures pre.2 pre.1 pre.3 c.is_sealed.ensures c.if-is_sealed.false c.if-start-ge-SIGN.false c.size_of-n.ensures c.size_of.ensures c.if-size_of-start.true

pub copy_elements-copied-requires : goal.copy_elements-copied-requires
copy_elements-copied-requires c = let pre = c.requires in record { places = (omega (arith, pre.0), omega (arith, pre.0), omega (arith, pre.0), (λ q. omega (arith, q)), (λ q. omega (arith, q))); copies = (inr (whole_size c.size_of-n.ensures), copies_elements c.if-size_of-start.false pre.1 pre.3 pre.4 c.size_of-n.ensures c.size_of.ensures) }

pub drop_operands-requires : goal.drop_operands-requires
drop_operands-requires c = let pre = c.requires in
    (omega (arith, pre.0, c.copy_elements-copied.ensures.depth_value), elsewhere c.copy_elements-copied.ensures.moves_heap pre.4)

pub shape_of-stack : goal.shape_of-stack
shape_of-stack c = c.copy_elements-copied.auto.stack

pub shape_of-cells : goal.shape_of-cells
shape_of-cells c = c.drop_operands.auto.cells ∙ c.copy_elements-copied.auto.cells

pub returns : goal.returns
returns c = let pre = c.requires in
    put_elements_done pre.0 c.integer_at-start.ensures pre.2 pre.1 pre.3 c.is_sealed.ensures c.if-is_sealed.false c.if-start-ge-SIGN.false c.size_of-n.ensures c.size_of.ensures c.if-size_of-start.false c.copy_elements-copied.ensures.moves_heap c.drop_operands.ensures c.copy_elements-copied.auto.stack
