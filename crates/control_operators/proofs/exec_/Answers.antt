-- `control_operators::exec_` meets its contract: the tests of depth and of room for a slot decide between the errors and the slot that is entered.
-- Assumes nothing.
use Prim.Native.Nat.{◌-◌}
use native.Mathlib.Omega.{arith}
use Rattle.semantics.specs.Machine.{pending}
use Rattle.semantics.specs.ListLaws.{nil}
use Rattle.frames.specs.Moves.{a_pending}
use Rattle.control_operators.proofs.Named.{exec_is}
use Rattle.control_operators.proofs.Entering.{alone_under, alone_into, into_full, into_done, forget_none}
use Rattle.std.proofs.lemmas.Result.{err_from_is_err_and}
use Rattle.control_operators.proofs.exec_.Goals as goal

pub returns-in_err-needs : goal.returns-in_err-needs
returns-in_err-needs c =
    let p = err_from_is_err_and c.from_residual.result c.from_residual.ensures.1 in
    rw (p.1, p.2, c.in_err-needs.ensures.1) (alone_under pending exec_is c.in_err-needs.ensures.0)

pub returns-in_err-has_slot : goal.returns-in_err-has_slot
returns-in_err-has_slot c =
    let p = err_from_is_err_and c.from_residual-in_err-has_slot.result c.from_residual-in_err-has_slot.ensures.1 in
    rw (p.1, p.2, c.in_err-has_slot.ensures.1) (into_full (alone_into pending exec_is (c.args.m.depth - 1) (omega (arith, c.in_ok-needs.ensures))) c.in_err-has_slot.ensures.0)

pub returns : goal.returns
returns c = into_done (alone_into pending exec_is (c.args.m.depth - 1) (omega (arith, c.in_ok-needs.ensures))) a_pending c.pend_top.ensures.enters forget_none nil c.pend_top.auto.exec
