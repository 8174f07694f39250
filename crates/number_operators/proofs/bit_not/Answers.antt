-- `number_operators::bit_not` meets its contract: the shape of one word or one truth value; a truth value is turned by its lowest bit.
-- Assumes nothing.
use Rattle.std.proofs.lemmas.Result.{err_from_is_err_and}
use Rattle.number_operators.proofs.Named.{not_is}
use Rattle.number_operators.proofs.Connectives.{negation_bad, negation_word, negation_truth}
use Rattle.semantics.specs.Operators.{perform}
use Rattle.semantics.specs.Text.{bytes}
use Rattle.number_operators.proofs.bit_not.Goals as goal

pub returns-in_err-a : goal.returns-in_err-a
returns-in_err-a c =
    let p = err_from_is_err_and c.from_residual.result c.from_residual.ensures.1 in
    rw (p.1, p.2) (negation_bad c.one_logical.ensures.fetches_one_logical (perform (bytes "not")) not_is c.in_err-a.was)

pub returns-in-Words : goal.returns-in-Words
returns-in-Words c = negation_word c.one_logical.ensures.fetches_one_logical (perform (bytes "not")) not_is c.bit_not.ensures (rw (← c.in-Words.is) c.in_ok-a.was) c.replace.ensures

pub returns-in-Truths : goal.returns-in-Truths
returns-in-Truths c = negation_truth c.one_logical.ensures.fetches_one_logical (perform (bytes "not")) not_is c.bit_xor.ensures (rw (← c.in-Truths.is) c.in_ok-a.was) c.replace-in-Truths.ensures
