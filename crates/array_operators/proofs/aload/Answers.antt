-- `aload` meets its contract: the tag, the room on the stack, and then what `spread` does.
-- Assumes nothing.
use native.Mathlib.Omega.{arith}
use Rattle.array_operators.proofs.Wholes.{aload_short, aload_type, aload_over, aload_done, first_there}
use Rattle.elements.proofs.Tags.{array_there}
use Rattle.std.proofs.lemmas.Result.{err_from_is_err_and}
use Rattle.array_operators.proofs.aload.Goals as goal

pub returns-in_err-needs : goal.returns-in_err-needs
returns-in_err-needs c =
    let p = err_from_is_err_and c.from_residual.result c.from_residual.ensures.1 in
    rw (p.1, p.2, c.in_err-needs.ensures.1) (aload_short c.in_err-needs.ensures.0)

pub returns-then-tag_of-lt-TAG_ARRAY : goal.returns-then-tag_of-lt-TAG_ARRAY
returns-then-tag_of-lt-TAG_ARRAY c = aload_type c.in_ok-needs.ensures c.tag_of.ensures c.if-tag_of-lt-TAG_ARRAY.true

pub size_of-n-requires : goal.size_of-n-requires
size_of-n-requires c = (c.in_ok-needs.ensures, array_there (_, c.if-tag_of-lt-TAG_ARRAY.false, c.tag_of.ensures) c.requires)

pub returns-in_err-has_room : goal.returns-in_err-has_room
returns-in_err-has_room c =
    let p = err_from_is_err_and c.from_residual-in_err-has_room.result c.from_residual-in_err-has_room.ensures.1 in
    rw (p.1, p.2, c.in_err-has_room.ensures.1) (aload_over c.in_ok-needs.ensures (_, c.if-tag_of-lt-TAG_ARRAY.false, c.tag_of.ensures) c.size_of-n.ensures (omega (arith, c.in_err-has_room.ensures.0)))

pub spread-requires : goal.spread-requires
spread-requires c = (c.in_ok-needs.ensures, c.in_ok-has_room.ensures, first_there (_, c.if-tag_of-lt-TAG_ARRAY.false, c.tag_of.ensures) c.size_of-n.ensures c.requires)

pub returns : goal.returns
returns c = aload_done c.in_ok-needs.ensures (_, c.if-tag_of-lt-TAG_ARRAY.false, c.tag_of.ensures) c.size_of-n.ensures c.spread.ensures c.spread.auto.stack

pub has_room-requires : goal.has_room-requires
has_room-requires c = c.requires.4.rooms.stack_fits
