-- `control_operators::repeat_` meets its contract: the tests decide between the errors and the slot that is entered.
-- Assumes nothing.
use Prim.Native.Nat.{◌+◌, ◌*◌, ◌-◌}
use native.Mathlib.Omega.{arith}
use Rattle.semantics.specs.ListLaws.{nil, cons}
use Rattle.machine.proofs.Naming.{integer_nameless}
use Rattle.frames.specs.Moves.{a_repeat}
use Rattle.control_operators.proofs.Entering.{repeat_under, repeat_type, repeat_range, repeat_into, slots_fault, into_full, into_done}
use Rattle.std.proofs.lemmas.Result.{err_from_is_err_and}
use Rattle.control_operators.proofs.repeat_.Goals as goal

pub returns-in_err-needs : goal.returns-in_err-needs
returns-in_err-needs c =
    let p = err_from_is_err_and c.from_residual.result c.from_residual.ensures.1 in
    rw (p.1, p.2, c.in_err-needs.ensures.1) (slots_fault (λ d cs l μ R. repeat_under R c.in_err-needs.ensures.0))

pub returns-in_err-n : goal.returns-in_err-n
returns-in_err-n c =
    let p = err_from_is_err_and c.from_residual-in_err-n.result c.from_residual-in_err-n.ensures.1 in
    rw (p.1, p.2, c.in_err-n.ensures.1) (slots_fault (λ d cs l μ R. repeat_type R (c.args.m.depth - 1 - 1) (omega (arith, c.in_ok-needs.ensures)) c.in_err-n.ensures.0))

pub returns-then-n-ge-SIGN : goal.returns-then-n-ge-SIGN
returns-then-n-ge-SIGN c = slots_fault (λ d cs l μ R. repeat_range R (c.args.m.depth - 1 - 1) (omega (arith, c.in_ok-needs.ensures)) c.in_ok-n.ensures.0 (omega (arith, c.in_ok-n.ensures.1, c.if-n-ge-SIGN.true)) (c.type_inv.stack (2 * (c.args.m.depth - 1 - 1) + 1)).fits)

pub returns-in_err-has_slot : goal.returns-in_err-has_slot
returns-in_err-has_slot c =
    let p = err_from_is_err_and c.from_residual-in_err-has_slot.result c.from_residual-in_err-has_slot.ensures.1 in
    rw (p.1, p.2, c.in_err-has_slot.ensures.1) (into_full (λ d cs l μ R. repeat_into R (c.args.m.depth - 1 - 1) (omega (arith, c.in_ok-needs.ensures)) c.in_ok-n.ensures.0 c.in_ok-n.ensures.1 c.if-n-ge-SIGN.false) c.in_err-has_slot.ensures.0)

pub returns : goal.returns
returns c = into_done (λ d cs l μ R. repeat_into R (c.args.m.depth - 1 - 1) (omega (arith, c.in_ok-needs.ensures)) c.in_ok-n.ensures.0 c.in_ok-n.ensures.1 c.if-n-ge-SIGN.false) a_repeat c.enter_loop-r.ensures.enters c.forget.ensures (cons integer_nameless nil) c.enter_loop-r.auto.exec
