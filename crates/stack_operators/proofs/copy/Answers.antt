-- `stack_operators::copy` meets its contract: the operand's sign, the depth and the room decide between the definition's errors and what `drop` and `double` do in turn.
-- Assumes nothing.
use Rattle.std.proofs.Common.{rules}
use native.Mathlib.Omega.{arith}
use Rattle.stack_operators.proofs.Returns.{copy_bad, copy_range, copy_short, copy_over, copy_good}
use Rattle.machine.proofs.Outcomes.{elsewhere}
use Rattle.std.proofs.lemmas.Result.{err_from_is_err_and}
use Rattle.stack_operators.proofs.copy.Goals as goal

pub returns-in_err-w : goal.returns-in_err-w
returns-in_err-w c =
    let p = err_from_is_err_and c.from_residual.result c.from_residual.ensures.1 in
    rw (p.1, p.2) (copy_bad c.one_int.ensures.fetches_one c.in_err-w.was)

pub returns-then-w-ge-SIGN : goal.returns-then-w-ge-SIGN
returns-then-w-ge-SIGN c = copy_range c.one_int.ensures.fetches_one c.in_ok-w.was c.if-w-ge-SIGN.true (search rules)

pub returns-in_err-needs : goal.returns-in_err-needs
returns-in_err-needs c =
    let p = err_from_is_err_and c.from_residual-in_err-needs.result c.from_residual-in_err-needs.ensures.1 in
    rw (p.1, p.2, c.in_err-needs.ensures.1) (copy_short c.one_int.ensures.fetches_one c.in_ok-w.was c.if-w-ge-SIGN.false (omega (arith, c.in_err-needs.ensures.0, c.in_ok-w.ensures.result_bound)))

pub returns-then-stack-m : goal.returns-then-stack-m
returns-then-stack-m c = copy_over c.one_int.ensures.fetches_one c.in_ok-w.was c.if-w-ge-SIGN.false (omega (arith, c.in_ok-needs.ensures)) c.if-stack-m.true

pub drop-left-requires : goal.drop-left-requires
drop-left-requires c = (omega (arith, c.in_ok-needs.ensures), c.requires)

pub double-requires : goal.double-requires
double-requires c =
    let depth = c.drop-left.ensures.depth_value in
    (omega (arith, depth, c.in_ok-needs.ensures), omega (arith, depth, c.in_ok-needs.ensures, c.if-stack-m.false), elsewhere c.drop-left.ensures.moves_heap c.requires)

pub returns : goal.returns
returns c = copy_good c.one_int.ensures.fetches_one c.in_ok-w.was c.if-w-ge-SIGN.false (omega (arith, c.in_ok-needs.ensures)) c.drop-left.ensures.moves_heap c.double.ensures c.double.auto.stack
