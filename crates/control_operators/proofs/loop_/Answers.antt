-- `control_operators::loop_` meets its contract: the tests of depth and of room for a slot decide between the errors and the slot that is entered.
-- Assumes nothing.
use Prim.Native.Nat.{◌-◌}
use native.Mathlib.Omega.{arith}
use Rattle.semantics.specs.Machine.{looping}
use Rattle.semantics.specs.ListLaws.{nil}
use Rattle.frames.specs.Moves.{a_loop}
use Rattle.control_operators.proofs.Named.{loop_is}
use Rattle.control_operators.proofs.Entering.{alone_under, alone_into, into_full, into_done, forget_none}
use Rattle.std.proofs.lemmas.Result.{err_from_is_err_and}
use Rattle.control_operators.proofs.loop_.Goals as goal

pub returns-in_err-needs : goal.returns-in_err-needs
returns-in_err-needs c =
    let p = err_from_is_err_and c.from_residual.result c.from_residual.ensures.1 in
    rw (p.1, p.2, c.in_err-needs.ensures.1) (alone_under looping loop_is c.in_err-needs.ensures.0)

pub returns-in_err-has_slot : goal.returns-in_err-has_slot
returns-in_err-has_slot c =
    let p = err_from_is_err_and c.from_residual-in_err-has_slot.result c.from_residual-in_err-has_slot.ensures.1 in
    rw (p.1, p.2, c.in_err-has_slot.ensures.1) (into_full (alone_into looping loop_is (c.args.m.depth - 1) (omega (arith, c.in_ok-needs.ensures))) c.in_err-has_slot.ensures.0)

pub returns : goal.returns
returns c = into_done (alone_into looping loop_is (c.args.m.depth - 1) (omega (arith, c.in_ok-needs.ensures))) a_loop c.enter_loop.ensures.enters forget_none nil c.enter_loop.auto.exec
