-- `stack_operators::exch` meets its contract: the test of depth decides between stackunderflow and what `swap` does.
-- Assumes nothing.
use Rattle.stack_operators.proofs.Returns.{exch_short, exch_good}
use Rattle.std.proofs.lemmas.Result.{err_from_is_err_and}
use Rattle.stack_operators.proofs.exch.Goals as goal

pub returns-in_err-needs : goal.returns-in_err-needs
returns-in_err-needs c =
    let p = err_from_is_err_and c.from_residual.result c.from_residual.ensures.1 in
    rw (p.1, p.2, c.in_err-needs.ensures.1) (exch_short c.in_err-needs.ensures.0)

pub returns : goal.returns
returns c = exch_good c.in_ok-needs.ensures c.swap.ensures.moves_stack c.swap.auto.stack
