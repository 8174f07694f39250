-- `number_operators::two` meets its contract: two integers or what is wrong with them, and what the function that is given answers of them.
-- Assumes nothing.
use Rattle.std.proofs.Common.{rules}
use Rattle.std.proofs.lemmas.Result.{err_from_is_err_and}
use Rattle.number_operators.proofs.Shapes.{two_bad, two_good, two_fails}
use Rattle.number_operators.proofs.two.Goals as goal

pub returns-in_err-a : goal.returns-in_err-a
returns-in_err-a g c =
    let p = err_from_is_err_and c.from_residual.result c.from_residual.ensures.1 in
    rw (p.1, p.2) (two_bad c.two_ints.ensures.fetches_two c.in_err-a.was)

pub returns-in_err-w : goal.returns-in_err-w
returns-in_err-w g c =
    let p = err_from_is_err_and c.from_residual-in_err-w.result c.from_residual-in_err-w.ensures.1 in
    rw (p.1, p.2) (two_fails c.two_ints.ensures.fetches_two c.in_ok-a.was (search rules) (search rules) c.in_err-w.ensures)

pub returns : goal.returns
returns g c = two_good c.two_ints.ensures.fetches_two c.in_ok-a.was (search rules) (search rules) c.in_ok-w.ensures c.replace.ensures
