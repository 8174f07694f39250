-- `astore` meets its contract: the tag, the mark and the number of items, and then all items are stored before any goes.
-- Assumes nothing.
use native.Mathlib.Omega.{arith}
use Rattle.machine.proofs.Outcomes.{elsewhere, then_heap, stack_heap}
use Rattle.array_operators.proofs.Wholes.{astore_short, astore_type, astore_refused, astore_few, astore_done, first_there}
use Rattle.elements.proofs.Tags.{array_there}
use Rattle.elements.proofs.Tags.{object_there}
use Rattle.std.proofs.lemmas.Result.{err_from_is_err_and}
use Rattle.array_operators.proofs.astore.Goals as goal

pub returns-in_err-needs : goal.returns-in_err-needs
returns-in_err-needs c =
    let p = err_from_is_err_and c.from_residual.result c.from_residual.ensures.1 in
    rw (p.1, p.2, c.in_err-needs.ensures.1) (astore_short c.in_err-needs.ensures.0)

pub returns-then-tag_of-lt-TAG_ARRAY : goal.returns-then-tag_of-lt-TAG_ARRAY
returns-then-tag_of-lt-TAG_ARRAY c = astore_type c.in_ok-needs.ensures c.tag_of.ensures c.if-tag_of-lt-TAG_ARRAY.true

pub is_sealed-requires : goal.is_sealed-requires
is_sealed-requires c = let pre = c.requires in
    (c.in_ok-needs.ensures, object_there c.tag_of.ensures (omega (arith, c.if-tag_of-lt-TAG_ARRAY.false)) (pre))

pub returns-then-is_sealed : goal.returns-then-is_sealed
returns-then-is_sealed c = astore_refused c.in_ok-needs.ensures (_, c.if-tag_of-lt-TAG_ARRAY.false, c.tag_of.ensures) c.is_sealed.ensures c.if-is_sealed.true

pub size_of-n-requires : goal.size_of-n-requires
size_of-n-requires c = let pre = c.requires in
    (c.in_ok-needs.ensures, array_there (_, c.if-tag_of-lt-TAG_ARRAY.false, c.tag_of.ensures) (pre))

pub returns-in_err-needs-2 : goal.returns-in_err-needs-2
returns-in_err-needs-2 c =
    let p = err_from_is_err_and c.from_residual-in_err-needs-2.result c.from_residual-in_err-needs-2.ensures.1 in
    rw (p.1, p.2, c.in_err-needs-2.ensures.1) (astore_few c.in_ok-needs.ensures (_, c.if-tag_of-lt-TAG_ARRAY.false, c.tag_of.ensures) c.is_sealed.ensures c.if-is_sealed.false c.size_of-n.ensures (omega (arith, c.in_err-needs-2.ensures.0)))

pub store_items-stored-requires : goal.store_items-stored-requires
store_items-stored-requires c = let pre = c.requires in
    (c.in_ok-needs.ensures, omega (arith, c.in_ok-needs.ensures, c.in_ok-needs-2.ensures), omega arith, first_there (_, c.if-tag_of-lt-TAG_ARRAY.false, c.tag_of.ensures) c.size_of-n.ensures (pre))

pub swap-turned-requires : goal.swap-turned-requires
swap-turned-requires c = let pre = c.requires in
    (omega (arith, c.in_ok-needs.ensures, c.store_items-stored.ensures.depth_value), omega (arith, c.in_ok-needs.ensures, c.in_ok-needs-2.ensures, c.store_items-stored.ensures.depth_value), omega (arith, c.store_items-stored.ensures.depth_value, pre.4.rooms.stack_fits))

pub drop_items-requires : goal.drop_items-requires
drop_items-requires c = let pre = c.requires in
    (omega (arith, c.in_ok-needs.ensures, c.in_ok-needs-2.ensures, c.store_items-stored.ensures.depth_value, c.swap-turned.ensures.depth_value), elsewhere (then_heap c.store_items-stored.ensures.moves_heap (stack_heap c.swap-turned.ensures.moves_stack)) (pre))

pub returns : goal.returns
returns c = astore_done c.in_ok-needs.ensures (_, c.if-tag_of-lt-TAG_ARRAY.false, c.tag_of.ensures) c.is_sealed.ensures c.if-is_sealed.false c.size_of-n.ensures (omega (arith, c.in_ok-needs-2.ensures)) c.store_items-stored.ensures.moves_heap c.swap-turned.ensures.moves_stack c.drop_items.ensures.moves_heap c.swap-turned.auto.stack
