-- `control_operators::ifelse` meets its contract: the tests decide between the errors and the body that becomes pending.
-- Assumes nothing.
use Prim.Native.Nat.{◌-◌}
use native.Mathlib.Omega.{arith}
use Rattle.frames.specs.Moves.{a_pending}
use Rattle.control_operators.proofs.Choosing.{same_frames, ifelse_under, ifelse_type, ifelse_full, ifelse_upper, ifelse_lower, frames_fault}
use Rattle.std.proofs.lemmas.Result.{err_from_is_err_and}
use Rattle.control_operators.proofs.ifelse.Goals as goal

pub returns-in_err-needs : goal.returns-in_err-needs
returns-in_err-needs c =
    let p = err_from_is_err_and c.from_residual.result c.from_residual.ensures.1 in
    rw (p.1, p.2, c.in_err-needs.ensures.1) (frames_fault (λ d l μ R. ifelse_under R c.in_err-needs.ensures.0))

pub returns-then-stack-i-ne-TAG_BOOLEAN : goal.returns-then-stack-i-ne-TAG_BOOLEAN
returns-then-stack-i-ne-TAG_BOOLEAN c = frames_fault (λ d l μ R. ifelse_type R (c.args.m.depth - 3) (omega (arith, c.in_ok-needs.ensures)) c.if-stack-i-ne-TAG_BOOLEAN.true)

pub returns-in_err-has_slot : goal.returns-in_err-has_slot
returns-in_err-has_slot c =
    let p = err_from_is_err_and c.from_residual-in_err-has_slot.result c.from_residual-in_err-has_slot.ensures.1 in
    rw (p.1, p.2, c.in_err-has_slot.ensures.1) (ifelse_full (c.args.m.depth - 3) (omega (arith, c.in_ok-needs.ensures)) c.if-stack-i-ne-TAG_BOOLEAN.false c.in_err-has_slot.ensures.0)

pub drop-r-requires : goal.drop-r-requires
drop-r-requires c =
    let P = c.requires in
    (omega (arith, c.in_ok-needs.ensures, c.pend_top-p.ensures.depth_value.0), (_, P.0, P.1, _, c.pend_top-p.ensures.enters.moves a_pending P.0 _ P.1 P.2 P.3))

pub returns-then-stack-i-eq0 : goal.returns-then-stack-i-eq0
returns-then-stack-i-eq0 c = ifelse_upper (c.args.m.depth - 3) (omega (arith, c.in_ok-needs.ensures)) c.if-stack-i-ne-TAG_BOOLEAN.false c.if-stack-i-eq0.true c.pend_top-p.ensures.enters c.drop-r.ensures.moves_heap c.forget.ensures c.pend_top-p.auto.exec

pub pend_top-r-requires : goal.pend_top-r-requires
pend_top-r-requires c =
    let P = c.requires in
    let D = c.drop-p.ensures in (
      omega (arith, c.in_ok-needs.ensures, D.depth_value),
      omega (arith, D.depth_value, P.3.rooms.stack_fits),
      omega (arith, c.in_ok-has_slot.ensures, same_frames P.3 (D.moves_heap.moves _ P.0 P.1 P.2 P.3)),
    )

pub returns : goal.returns
returns c = ifelse_lower (c.args.m.depth - 3) (omega (arith, c.in_ok-needs.ensures)) c.if-stack-i-ne-TAG_BOOLEAN.false c.if-stack-i-eq0.false c.drop-p.ensures.moves_heap c.pend_top-r.ensures.enters c.forget-2.ensures c.pend_top-r.auto.exec
