-- `take_literal` meets its contract: by whether the name has a slot, and each test of room in the definition's order.
-- Assumes nothing.
use Rattle.std.proofs.lemmas.Result.{err_from_is_err_and}
use Rattle.taking.proofs.Interning.{known_over, known_done, new_full, new_over, new_done}
use native.Mathlib.Omega.{arith}
use Rattle.taking.proofs.take_literal.Goals as goal

pub returns-in_err-has_room : goal.returns-in_err-has_room
returns-in_err-has_room c =
    let p = err_from_is_err_and c.from_residual.result c.from_residual.ensures.1 in
    rw (p.1, p.2, c.in_err-has_room.ensures.1) (known_over c.in-Some.ensures.finds c.in-Some.ensures.upper_bound (omega (arith, c.in_err-has_room.ensures.0)))

pub returns-in-Some : goal.returns-in-Some
returns-in-Some c = known_done c.in-Some.ensures.finds c.in-Some.ensures.upper_bound c.push_name.ensures.pushes_name c.push_name.auto.stack

pub returns-in_err-has_free_name : goal.returns-in_err-has_free_name
returns-in_err-has_free_name c =
    let p = err_from_is_err_and c.from_residual-in_err-has_free_name.result c.from_residual-in_err-has_free_name.ensures.1 in
    rw (p.1, p.2, c.in_err-has_free_name.ensures.1) (new_full c.in_default.ensures.finds c.in_err-has_free_name.ensures.0)

pub returns-in_err-has_room-2 : goal.returns-in_err-has_room-2
returns-in_err-has_room-2 c =
    let p = err_from_is_err_and c.from_residual-in_err-has_room-2.result c.from_residual-in_err-has_room-2.ensures.1 in
    rw (p.1, p.2, c.in_err-has_room-2.ensures.1) (new_over c.in_default.ensures.finds c.in_ok-has_free_name.ensures (omega (arith, c.in_err-has_room-2.ensures.0)))

pub returns : goal.returns
returns c = new_done c.in_default.ensures.finds c.in_ok-has_free_name.ensures c.add-added.ensures.adds c.push_name-2.ensures.pushes_name c.push_name-2.auto.stack
