-- `groups::judge` meets its contract: what is known of the rest of a group gives what is known of the whole, and an inner group has a level less.
-- Assumes nothing.
use native.Mathlib.Omega.{arith}
use Rattle.std.proofs.lemmas.Result.{err_from_is_err_and}
use Rattle.groups.proofs.Judging.{begin, judge_fault, element_inside, judge_element, open_inside, judge_deep, judge_inner_fault, inner_inside, judge_inner, judge_close, judge_end}
use Rattle.groups.proofs.+judge.Goals as goal

pub loop-weight-init : goal.loop-weight-init
loop-weight-init t c = begin _ _ _ c.requires.1

pub weigh-requires : goal.weigh-requires
weigh-requires t c = (c.loop-weight.invariant.inside, c.requires.2)

pub returns-in_err-weight : goal.returns-in_err-weight
returns-in_err-weight t c = let p = err_from_is_err_and c.from_residual.result c.from_residual.ensures.1 in rw (p.1, p.2) (judge_fault c.loop-weight.invariant c.in_err-weight.ensures)

pub overflow_add-wants : goal.overflow_add-wants
overflow_add-wants t c = omega (arith, c.loop-weight.invariant.few, element_inside c.loop-weight.invariant (rw c.in-Element.is at c.in_ok-weight.ensures))

pub loop-weight-smaller-in-Element : goal.loop-weight-smaller-in-Element
loop-weight-smaller-in-Element t c = omega (arith, element_inside c.loop-weight.invariant (rw c.in-Element.is at c.in_ok-weight.ensures))

pub loop-weight-preserved-in-Element : goal.loop-weight-preserved-in-Element
loop-weight-preserved-in-Element t c = judge_element c.loop-weight.invariant (rw c.in-Element.is at c.in_ok-weight.ensures)

pub returns-then-depth-eq0 : goal.returns-then-depth-eq0
returns-then-depth-eq0 t c = judge_deep c.loop-weight.invariant (rw c.in-Open.is at c.in_ok-weight.ensures) c.if-depth-eq0.true

pub judge-requires : goal.judge-requires
judge-requires t c =
    let o = open_inside c.loop-weight.invariant (rw c.in-Open.is at c.in_ok-weight.ensures) in
    (omega (arith, c.if-depth-eq0.false, c.decreases), (o.0, o.1, c.requires.2))

pub returns-in_err-inner-in-Open : goal.returns-in_err-inner-in-Open
returns-in_err-inner-in-Open t c = let p = err_from_is_err_and c.from_residual-in_err-inner-in-Open.result c.from_residual-in_err-inner-in-Open.ensures.1 in rw (p.1, p.2)
    (judge_inner_fault c.loop-weight.invariant (rw c.in-Open.is at c.in_ok-weight.ensures) _ (omega (arith, c.if-depth-eq0.false)) c.in_err-inner-in-Open.ensures)

pub loop-weight-smaller : goal.loop-weight-smaller
loop-weight-smaller t c = omega (arith, inner_inside c.loop-weight.invariant (rw c.in-Open.is at c.in_ok-weight.ensures) _ (omega (arith, c.if-depth-eq0.false)) c.in_ok-inner-in-Open.ensures)

pub loop-weight-preserved : goal.loop-weight-preserved
loop-weight-preserved t c = judge_inner c.loop-weight.invariant (rw c.in-Open.is at c.in_ok-weight.ensures) _ (omega (arith, c.if-depth-eq0.false)) c.in_ok-inner-in-Open.ensures

pub returns-in-Close : goal.returns-in-Close
returns-in-Close t c = judge_close c.loop-weight.invariant (rw c.in-Close.is at c.in_ok-weight.ensures)

pub returns-in-End : goal.returns-in-End
returns-in-End t c = judge_end c.loop-weight.invariant (rw c.in-End.is at c.in_ok-weight.ensures)
