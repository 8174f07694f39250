-- `take_integer` meets its contract: the stack's room is tested, and an integer needs no other.
-- Assumes nothing.
use Rattle.std.proofs.lemmas.Result.{err_from_is_err_and}
use native.Mathlib.Omega.{arith}
use Rattle.taking.proofs.Pushing.{integer_over, integer_done}
use Rattle.taking.proofs.take_integer.Goals as goal

pub returns-in_err-has_room : goal.returns-in_err-has_room
returns-in_err-has_room c =
    let p = err_from_is_err_and c.from_residual.result c.from_residual.ensures.1 in
    rw (p.1, p.2, c.in_err-has_room.ensures.1) (integer_over _ (omega (arith, c.in_err-has_room.ensures.0)))

pub returns : goal.returns
returns c = integer_done _ c.push_scalar.ensures.pushes c.push_scalar.auto.stack
