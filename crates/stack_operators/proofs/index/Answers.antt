-- `stack_operators::index` meets its contract: the operand's sign and the test of depth decide between the definition's errors and what `copy_over` does.
-- Assumes nothing.
use Rattle.std.proofs.Common.{rules}
use native.Mathlib.Omega.{arith}
use Rattle.stack_operators.proofs.Returns.{index_bad, index_range, index_short, index_good}
use Rattle.std.proofs.lemmas.Result.{err_from_is_err_and}
use Rattle.stack_operators.proofs.index.Goals as goal

pub returns-in_err-w : goal.returns-in_err-w
returns-in_err-w c =
    let p = err_from_is_err_and c.from_residual.result c.from_residual.ensures.1 in
    rw (p.1, p.2) (index_bad c.one_int.ensures.fetches_one c.in_err-w.was)

pub returns-then-w-ge-SIGN : goal.returns-then-w-ge-SIGN
returns-then-w-ge-SIGN c = index_range c.one_int.ensures.fetches_one c.in_ok-w.was c.if-w-ge-SIGN.true (search rules)

pub returns-in_err-needs : goal.returns-in_err-needs
returns-in_err-needs c =
    let p = err_from_is_err_and c.from_residual-in_err-needs.result c.from_residual-in_err-needs.ensures.1 in
    rw (p.1, p.2, c.in_err-needs.ensures.1) (index_short c.one_int.ensures.fetches_one c.in_ok-w.was c.if-w-ge-SIGN.false (omega (arith, c.in_err-needs.ensures.0)))

pub copy_over-requires : goal.copy_over-requires
copy_over-requires c = (omega (arith, c.in_ok-needs.ensures), omega (arith, c.in_ok-needs.ensures), c.requires)

pub returns : goal.returns
returns c = index_good c.one_int.ensures.fetches_one c.in_ok-w.was c.if-w-ge-SIGN.false (omega (arith, c.in_ok-needs.ensures)) c.copy_over.ensures.moves_heap c.copy_over.auto.stack
