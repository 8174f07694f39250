-- `stack_operators::mark` meets its contract: a mark is pushed where the test of room passes.
-- Assumes nothing.
use native.Mathlib.Omega.{arith}
use Rattle.stack_operators.proofs.Scalars.{mark_over, mark_done}
use Rattle.std.proofs.lemmas.Result.{err_from_is_err_and}
use Rattle.stack_operators.proofs.mark.Goals as goal

pub returns-in_err-has_room : goal.returns-in_err-has_room
returns-in_err-has_room c =
    let p = err_from_is_err_and c.from_residual.result c.from_residual.ensures.1 in
    rw (p.1, p.2, c.in_err-has_room.ensures.1) (mark_over c.requires (omega (arith, c.in_err-has_room.ensures.0)))

pub returns : goal.returns
returns c = mark_done (omega (arith, c.in_ok-has_room.ensures)) c.push_scalar.ensures.pushes
