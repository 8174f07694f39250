-- `forf_token::number_of` meets its contract: each way to an answer by its law.
-- Assumes nothing.
use Rattle.std.proofs.lemmas.Result.{err_from_is_err_and}
use native.Mathlib.Omega.{arith}
use Rattle.forf_token.proofs.Numbers.{empty_unsigned, number_plain, number_negative, number_fault}
use Rattle.forf_token.proofs.number_of.Goals as goal
use Rattle.forf_token.proofs.number_of.Goals.{then-is_empty-via-then-is_empty, then-is_empty-via-else-is_empty+then-s-ne45}

pub returns-then-is_empty : goal.returns-then-is_empty
returns-then-is_empty c =
    elim c.then-is_empty.branch [
      | then-is_empty-via-then-is_empty w ↦ number_plain c.args.s.now _ (empty_unsigned c.args.s.now (grind arith)) c.magnitude.ensures
      | then-is_empty-via-else-is_empty+then-s-ne45 w ↦ number_plain c.args.s.now _ w.if-s-ne45.true c.magnitude.ensures
    ]

pub returns-in_err-n : goal.returns-in_err-n
returns-in_err-n c = let p = err_from_is_err_and c.from_residual.result c.from_residual.ensures.1 in rw p.1
    (number_fault c.args.s.now (grind arith) c.if-s-ne45.false c.in_err-n.ensures)

pub returns : goal.returns
returns c = number_negative c.args.s.now (grind arith) c.if-s-ne45.false c.in_ok-n.ensures (omega arith) c.wrapping_neg.type_inv c.wrapping_neg.ensures
