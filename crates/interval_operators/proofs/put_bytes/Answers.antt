-- `put_bytes` meets its contract: the mark, the start and both maxima decide between invalidaccess, rangecheck and what `copy_bytes` and the drops do.
-- Assumes nothing.
use native.Mathlib.Omega.{arith}
use mathlib.Core.Path.{◌∙◌}
use Rattle.machine.proofs.Outcomes.{elsewhere}
use Rattle.interval_operators.proofs.Putting.{put_bytes_refused, put_bytes_negative, put_bytes_outside, put_bytes_done}
use Rattle.interval_operators.proofs.Asking.{small_string, copies_bytes}
use borrow.Author.Rules.{rules}
use Rattle.elements.proofs.Tags.{string_there}
use Rattle.elements.proofs.Tags.{object_there}
use Rattle.interval_operators.proofs.put_bytes.Goals as goal

pub is_sealed-requires : goal.is_sealed-requires
is_sealed-requires c = let pre = c.requires in
    (omega (arith, pre.0), object_there pre.1 (omega arith) pre.4)

pub returns-then-is_sealed : goal.returns-then-is_sealed
returns-then-is_sealed c = let pre = c.requires in
    put_bytes_refused pre.0 c.integer_at-start.ensures pre.2 pre.1 pre.3 c.is_sealed.ensures c.if-is_sealed.true

pub returns-then-start-ge-SIGN : goal.returns-then-start-ge-SIGN
returns-then-start-ge-SIGN c = let pre = c.requires in
    put_bytes_negative pre.0 c.integer_at-start.ensures pre.2 pre.1 pre.3 c.is_sealed.ensures c.if-is_sealed.false c.if-start-ge-SIGN.true (search rules)

pub maximum-n-requires : goal.maximum-n-requires
maximum-n-requires c = let pre = c.requires in
    (omega (arith, pre.0), string_there pre.3 pre.4)

pub maximum-requires : goal.maximum-requires
maximum-requires c = let pre = c.requires in
    (omega (arith, pre.0), string_there pre.1 pre.4)

pub overflow_add-start : goal.overflow_add-start
overflow_add-start c = let pre = c.requires in
    let few = small_string (omega (arith, pre.0)) (string_there pre.3 pre.4) c.maximum-n.ensures in omega (arith, few, c.if-start-ge-SIGN.false)

pub returns-then-maximum-start : goal.returns-then-maximum-start
returns-then-maximum-start c = let pre = c.requires in
    put_bytes_outside pre.0 c.integer_at-start.ensures pre.2 pre.1 pre.3 c.is_sealed.ensures c.if-is_sealed.false c.if-start-ge-SIGN.false c.maximum-n.ensures c.maximum.ensures c.if-maximum-start.true

pub copy_bytes-requires : goal.copy_bytes-requires
copy_bytes-requires c = let pre = c.requires in
    (omega (arith, pre.0), omega (arith, pre.0), copies_bytes c.if-maximum-start.false pre.1 pre.3 pre.4 c.maximum-n.ensures c.maximum.ensures)

pub drop_operands-requires : goal.drop_operands-requires
drop_operands-requires c = let pre = c.requires in
    (pre.0, elsewhere c.copy_bytes.ensures pre.4)

pub shape_of-cells : goal.shape_of-cells
shape_of-cells c = c.drop_operands.auto.cells ∙ c.copy_bytes.auto.cells

pub returns : goal.returns
returns c = let pre = c.requires in
    put_bytes_done pre.0 c.integer_at-start.ensures pre.2 pre.1 pre.3 c.is_sealed.ensures c.if-is_sealed.false c.if-start-ge-SIGN.false c.maximum-n.ensures c.maximum.ensures c.if-maximum-start.false c.copy_bytes.ensures c.drop_operands.ensures
