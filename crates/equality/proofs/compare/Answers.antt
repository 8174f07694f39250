-- `equality::compare` meets its contract: the test of depth decides between stackunderflow and the answer, which `negated` turns.
-- Assumes nothing.
use Rattle.std.proofs.lemmas.Result.{err_from_is_err_and}
use Rattle.equality.proofs.Answers.{named_is, turned, equality_short, equality_good}
use Rattle.equality.specs.Comparing.{turned_by}
use Rattle.equality.proofs.compare.Goals as goal

pub returns-in_err-needs : goal.returns-in_err-needs
returns-in_err-needs c =
    let p = err_from_is_err_and c.from_residual.result c.from_residual.ensures.1 in
    rw (p.1, p.2, c.in_err-needs.ensures.1) (equality_short (turned_by c.args.negated) (named_is c.args.negated) c.in_err-needs.ensures.0)

pub equal-requires : goal.equal-requires
equal-requires c = (c.in_ok-needs.ensures, c.requires)

pub answer-requires : goal.answer-requires
answer-requires c = (c.in_ok-needs.ensures, c.requires)

pub returns : goal.returns
returns c = equality_good (turned_by c.args.negated) (named_is c.args.negated) c.in_ok-needs.ensures c.equal.ensures (turned c.equal.result c.args.negated) c.answer.ensures c.answer.auto.stack
