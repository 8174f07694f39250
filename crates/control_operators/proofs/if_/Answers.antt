-- `control_operators::if_` meets its contract: the tests decide between the errors, a body that goes and one that becomes pending.
-- Assumes nothing.
use Prim.Native.Nat.{◌-◌}
use native.Mathlib.Omega.{arith}
use Rattle.semantics.specs.ListLaws.{nil, cons}
use Rattle.machine.proofs.Naming.{boolean_nameless}
use Rattle.frames.specs.Moves.{a_pending}
use Rattle.control_operators.proofs.Choosing.{if_under, if_type, if_into, if_skips, frames_fault}
use Rattle.control_operators.proofs.Promising.{slots_frames}
use Rattle.control_operators.proofs.Entering.{into_full, into_done}
use Rattle.std.proofs.lemmas.Result.{err_from_is_err_and}
use Rattle.control_operators.proofs.if_.Goals as goal

pub returns-in_err-needs : goal.returns-in_err-needs
returns-in_err-needs c =
    let p = err_from_is_err_and c.from_residual.result c.from_residual.ensures.1 in
    rw (p.1, p.2, c.in_err-needs.ensures.1) (frames_fault (λ d l μ R. if_under R c.in_err-needs.ensures.0))

pub returns-then-stack-i-ne-TAG_BOOLEAN : goal.returns-then-stack-i-ne-TAG_BOOLEAN
returns-then-stack-i-ne-TAG_BOOLEAN c = frames_fault (λ d l μ R. if_type R (c.args.m.depth - 2) (omega (arith, c.in_ok-needs.ensures)) c.if-stack-i-ne-TAG_BOOLEAN.true)

pub returns-then-stack-i-eq0 : goal.returns-then-stack-i-eq0
returns-then-stack-i-eq0 c = if_skips (c.args.m.depth - 2) (omega (arith, c.in_ok-needs.ensures)) c.if-stack-i-ne-TAG_BOOLEAN.false c.if-stack-i-eq0.true c.drop-r.ensures.moves_heap c.forget.ensures

pub returns-in_err-has_slot : goal.returns-in_err-has_slot
returns-in_err-has_slot c =
    let p = err_from_is_err_and c.from_residual-in_err-has_slot.result c.from_residual-in_err-has_slot.ensures.1 in
    rw (p.1, p.2, c.in_err-has_slot.ensures.1) (slots_frames _ (into_full (λ d cs l μ R. if_into R (c.args.m.depth - 2) (omega (arith, c.in_ok-needs.ensures)) c.if-stack-i-ne-TAG_BOOLEAN.false c.if-stack-i-eq0.false) c.in_err-has_slot.ensures.0) _)

pub returns : goal.returns
returns c = slots_frames _ (into_done (λ d cs l μ R. if_into R (c.args.m.depth - 2) (omega (arith, c.in_ok-needs.ensures)) c.if-stack-i-ne-TAG_BOOLEAN.false c.if-stack-i-eq0.false) a_pending c.pend_top-r.ensures.enters c.forget-2.ensures (cons boolean_nameless nil) c.pend_top-r.auto.exec) _
