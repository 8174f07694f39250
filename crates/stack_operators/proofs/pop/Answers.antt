-- `stack_operators::pop` meets its contract: the test of depth decides between stackunderflow and what `drop` does.
-- Assumes nothing.
use Rattle.stack_operators.proofs.Returns.{pop_short, pop_good}
use Rattle.std.proofs.lemmas.Result.{err_from_is_err_and}
use Rattle.stack_operators.proofs.pop.Goals as goal

pub returns-in_err-needs : goal.returns-in_err-needs
returns-in_err-needs c =
    let p = err_from_is_err_and c.from_residual.result c.from_residual.ensures.1 in
    rw (p.1, p.2, c.in_err-needs.ensures.1) (pop_short c.in_err-needs.ensures.0)

pub drop-requires : goal.drop-requires
drop-requires c = (c.in_ok-needs.ensures, c.requires)

pub returns : goal.returns
returns c = pop_good c.in_ok-needs.ensures c.drop.ensures.moves_heap
