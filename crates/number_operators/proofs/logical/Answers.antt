-- `number_operators::logical` meets its contract: two words or two truth values, or what is wrong with them, and what the function that is given answers of them.
-- Assumes nothing.
use Rattle.std.proofs.Common.{rules}
use Rattle.std.proofs.lemmas.Result.{err_from_is_err_and}
use Rattle.number_operators.proofs.Connectives.{connective_bad, connective_words, connective_truths}
use Rattle.number_operators.proofs.logical.Goals as goal

pub returns-in_err-a : goal.returns-in_err-a
returns-in_err-a g c =
    let p = err_from_is_err_and c.from_residual.result c.from_residual.ensures.1 in
    rw (p.1, p.2) (connective_bad c.two_logical.ensures.fetches_two_logical c.in_err-a.was)

pub returns-in-Words : goal.returns-in-Words
returns-in-Words g c = connective_words c.two_logical.ensures.fetches_two_logical (search rules) (search rules) c.f.ensures (rw (← c.in-Words.is) c.in_ok-a.was) c.replace.ensures

pub returns-in-Truths : goal.returns-in-Truths
returns-in-Truths g c = connective_truths c.two_logical.ensures.fetches_two_logical (search rules) (search rules) c.f-in-Truths.ensures (rw (← c.in-Truths.is) c.in_ok-a.was) c.replace-in-Truths.ensures
