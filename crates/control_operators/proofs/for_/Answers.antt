-- `control_operators::for_` meets its contract: the tests decide between the errors and the slot that is entered.
-- Assumes nothing.
use Prim.Native.Nat.{◌-◌}
use Rattle.std.proofs.Common.{rules}
use native.Mathlib.Omega.{arith}
use Rattle.semantics.specs.ListLaws.{nil, cons}
use Rattle.machine.proofs.Naming.{integer_nameless}
use Rattle.frames.specs.Moves.{a_for}
use Rattle.control_operators.proofs.Entering.{for_under, for_type1, for_type2, for_type3, for_into, slots_fault, into_full, into_done}
use Rattle.std.proofs.lemmas.Result.{err_from_is_err_and}
use Rattle.control_operators.proofs.for_.Goals as goal

pub returns-in_err-needs : goal.returns-in_err-needs
returns-in_err-needs c =
    let p = err_from_is_err_and c.from_residual.result c.from_residual.ensures.1 in
    rw (p.1, p.2, c.in_err-needs.ensures.1) (slots_fault (λ d cs l μ R. for_under R c.in_err-needs.ensures.0))

pub returns-in_err-initial : goal.returns-in_err-initial
returns-in_err-initial c =
    let p = err_from_is_err_and c.from_residual-in_err-initial.result c.from_residual-in_err-initial.ensures.1 in
    rw (p.1, p.2, c.in_err-initial.ensures.1) (slots_fault (λ d cs l μ R. for_type1 R (c.args.m.depth - 1 - 3) (c.args.m.depth - 1 - 2) (c.args.m.depth - 1 - 1) (omega (arith, c.in_ok-needs.ensures)) (omega (arith, c.in_ok-needs.ensures)) (omega (arith, c.in_ok-needs.ensures)) c.in_err-initial.ensures.0))

pub returns-in_err-increment : goal.returns-in_err-increment
returns-in_err-increment c =
    let p = err_from_is_err_and c.from_residual-in_err-increment.result c.from_residual-in_err-increment.ensures.1 in
    rw (p.1, p.2, c.in_err-increment.ensures.1) (slots_fault (λ d cs l μ R. for_type2 R (c.args.m.depth - 1 - 3) (c.args.m.depth - 1 - 2) (c.args.m.depth - 1 - 1) (omega (arith, c.in_ok-needs.ensures)) (omega (arith, c.in_ok-needs.ensures)) (omega (arith, c.in_ok-needs.ensures)) c.in_ok-initial.ensures.0 c.in_err-increment.ensures.0))

pub returns-in_err-last : goal.returns-in_err-last
returns-in_err-last c =
    let p = err_from_is_err_and c.from_residual-in_err-last.result c.from_residual-in_err-last.ensures.1 in
    rw (p.1, p.2, c.in_err-last.ensures.1) (slots_fault (λ d cs l μ R. for_type3 R (c.args.m.depth - 1 - 3) (c.args.m.depth - 1 - 2) (c.args.m.depth - 1 - 1) (omega (arith, c.in_ok-needs.ensures)) (omega (arith, c.in_ok-needs.ensures)) (omega (arith, c.in_ok-needs.ensures)) c.in_ok-initial.ensures.0 c.in_ok-increment.ensures.0 c.in_err-last.ensures.0))

pub returns-in_err-has_slot : goal.returns-in_err-has_slot
returns-in_err-has_slot c =
    let p = err_from_is_err_and c.from_residual-in_err-has_slot.result c.from_residual-in_err-has_slot.ensures.1 in
    rw (p.1, p.2, c.in_err-has_slot.ensures.1) (into_full (λ d cs l μ R.
    for_into R (c.args.m.depth - 1 - 3) (c.args.m.depth - 1 - 2) (c.args.m.depth - 1 - 1) (omega (arith, c.in_ok-needs.ensures)) (omega (arith, c.in_ok-needs.ensures)) (omega (arith, c.in_ok-needs.ensures))
    c.in_ok-initial.ensures.0 c.in_ok-increment.ensures.0 c.in_ok-last.ensures.0 c.in_ok-initial.ensures.1 c.in_ok-increment.ensures.1 c.in_ok-last.ensures.1 (search rules) (search rules)) c.in_err-has_slot.ensures.0)

pub returns : goal.returns
returns c = into_done (λ d cs l μ R.
    for_into R (c.args.m.depth - 1 - 3) (c.args.m.depth - 1 - 2) (c.args.m.depth - 1 - 1) (omega (arith, c.in_ok-needs.ensures)) (omega (arith, c.in_ok-needs.ensures)) (omega (arith, c.in_ok-needs.ensures))
    c.in_ok-initial.ensures.0 c.in_ok-increment.ensures.0 c.in_ok-last.ensures.0 c.in_ok-initial.ensures.1 c.in_ok-increment.ensures.1 c.in_ok-last.ensures.1 (search rules) (search rules)) a_for c.enter_loop-r.ensures.enters c.forget.ensures (cons integer_nameless (cons integer_nameless (cons integer_nameless nil))) c.enter_loop-r.auto.exec
