-- `put_in_array` meets its contract: the mark, the index by its sign and against the size, and the element put before the operands go.
-- Assumes nothing.
use native.Mathlib.Omega.{arith}
use Rattle.machine.proofs.Outcomes.{elsewhere}
use Rattle.array_operators.proofs.Putting.{put_element_refused, put_below, put_past, put_element_done}
use Rattle.array_operators.proofs.Objects.{element_there}
use borrow.Author.Rules.{rules}
use Rattle.elements.proofs.Tags.{array_there}
use Rattle.elements.proofs.Tags.{object_there}
use Rattle.array_operators.proofs.put_in_array.Goals as goal

pub is_sealed-requires : goal.is_sealed-requires
is_sealed-requires c = let pre = c.requires in
    (omega (arith, pre.0), object_there pre.1.2 (omega (arith, pre.1.1)) pre.3)

pub returns-then-is_sealed : goal.returns-then-is_sealed
returns-then-is_sealed c = let pre = c.requires in
    put_element_refused pre.0 pre.2 c.is_sealed.ensures pre.1 c.if-is_sealed.true

pub returns-then-n-ge-SIGN : goal.returns-then-n-ge-SIGN
returns-then-n-ge-SIGN c = let pre = c.requires in
    put_below pre.0 pre.2 c.is_sealed.ensures pre.1 c.if-is_sealed.false c.if-n-ge-SIGN.true (search rules)

pub size_of-requires : goal.size_of-requires
size_of-requires c = let pre = c.requires in
    (omega (arith, pre.0), array_there pre.1 pre.3)

pub returns-then-size_of-n : goal.returns-then-size_of-n
returns-then-size_of-n c = let pre = c.requires in
    put_past pre.0 pre.2 c.is_sealed.ensures pre.1 c.if-is_sealed.false c.if-n-ge-SIGN.false c.size_of.ensures c.if-size_of-n.true

pub put_element-left-requires : goal.put_element-left-requires
put_element-left-requires c = let pre = c.requires in
    (omega (arith, pre.0), omega (arith, pre.0), element_there pre.1 pre.3 c.size_of.ensures c.if-size_of-n.false)

pub drop_items-requires : goal.drop_items-requires
drop_items-requires c = let pre = c.requires in
    (omega (arith, pre.0, c.put_element-left.ensures.depth_value), elsewhere c.put_element-left.ensures.moves_heap pre.3)

pub returns : goal.returns
returns c = let pre = c.requires in
    put_element_done pre.0 pre.2 c.is_sealed.ensures pre.1 c.if-is_sealed.false c.if-n-ge-SIGN.false c.size_of.ensures c.if-size_of-n.false c.put_element-left.ensures.moves_heap c.drop_items.ensures.moves_heap
