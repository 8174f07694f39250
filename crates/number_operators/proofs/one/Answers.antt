-- `number_operators::one` meets its contract: an integer or what is wrong with it, and what the function that is given answers of it.
-- Assumes nothing.
use Rattle.std.proofs.Common.{rules}
use Rattle.std.proofs.lemmas.Result.{err_from_is_err_and}
use Rattle.number_operators.proofs.Shapes.{one_bad, one_good, one_fails}
use Rattle.number_operators.proofs.one.Goals as goal

pub returns-in_err-a : goal.returns-in_err-a
returns-in_err-a g c =
    let p = err_from_is_err_and c.from_residual.result c.from_residual.ensures.1 in
    rw (p.1, p.2) (one_bad c.one_int.ensures.fetches_one c.in_err-a.was)

pub returns-in_err-w : goal.returns-in_err-w
returns-in_err-w g c =
    let p = err_from_is_err_and c.from_residual-in_err-w.result c.from_residual-in_err-w.ensures.1 in
    rw (p.1, p.2) (one_fails c.one_int.ensures.fetches_one c.in_ok-a.was (search rules) c.in_err-w.ensures)

pub returns : goal.returns
returns g c = one_good c.one_int.ensures.fetches_one c.in_ok-a.was (search rules) c.in_ok-w.ensures c.replace.ensures
