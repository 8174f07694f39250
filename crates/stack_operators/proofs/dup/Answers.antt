-- `stack_operators::dup` meets its contract: the tests of depth and room decide between the definition's errors and what `push_copy` does.
-- Assumes nothing.
use Rattle.stack_operators.proofs.Returns.{dup_short, dup_over, dup_good}
use native.Mathlib.Omega.{arith}
use Rattle.std.proofs.lemmas.Result.{err_from_is_err_and}
use Rattle.stack_operators.proofs.dup.Goals as goal

pub returns-in_err-needs : goal.returns-in_err-needs
returns-in_err-needs c =
    let p = err_from_is_err_and c.from_residual.result c.from_residual.ensures.1 in
    rw (p.1, p.2, c.in_err-needs.ensures.1) (dup_short c.in_err-needs.ensures.0)

pub has_room-requires : goal.has_room-requires
has_room-requires c = c.requires.4.rooms.stack_fits

pub returns-in_err-has_room : goal.returns-in_err-has_room
returns-in_err-has_room c =
    let p = err_from_is_err_and c.from_residual-in_err-has_room.result c.from_residual-in_err-has_room.ensures.1 in
    rw (p.1, p.2, c.in_err-has_room.ensures.1) (dup_over c.in_ok-needs.ensures (omega (arith, c.in_err-has_room.ensures.0)))

pub push_copy-requires : goal.push_copy-requires
push_copy-requires c = (c.in_ok-needs.ensures, omega (arith, c.in_ok-has_room.ensures), c.requires)

pub returns : goal.returns
returns c = dup_good c.in_ok-needs.ensures c.push_copy.ensures.moves_heap c.push_copy.auto.stack
