-- `new_length` meets its contract: the integer by its sign and by the limit, in the definition's order.
-- Assumes nothing.
use native.Mathlib.Omega.{arith}
use Rattle.array_operators.proofs.Lengths.{length_no_integer, length_below, length_above, length_got}
use borrow.Author.Rules.{rules}
use Rattle.std.proofs.lemmas.Result.{err_from_is_err_and}
use Rattle.array_operators.proofs.new_length.Goals as goal

pub returns-then-n-ge-SIGN : goal.returns-then-n-ge-SIGN
returns-then-n-ge-SIGN c = record { fetches_length = length_below c.one_int.ensures.fetches_one c.in_ok-n.was c.if-n-ge-SIGN.true (search rules); result_bound = omega arith; result_bound_2 = omega arith }

pub returns-then-n-gt-LONGEST : goal.returns-then-n-gt-LONGEST
returns-then-n-gt-LONGEST c = record { fetches_length = length_above c.one_int.ensures.fetches_one c.in_ok-n.was c.if-n-ge-SIGN.false c.if-n-gt-LONGEST.true; result_bound = omega arith; result_bound_2 = omega arith }

pub returns : goal.returns
returns c = record { fetches_length = length_got c.one_int.ensures.fetches_one c.in_ok-n.was; result_bound = c.in_ok-n.ensures.result_bound; result_bound_2 = c.if-n-gt-LONGEST.false }

pub returns-in_err-n : goal.returns-in_err-n
returns-in_err-n c =
    let p = err_from_is_err_and c.from_residual.result c.from_residual.ensures.1 in
    rw (p.1, p.2) (record { fetches_length = length_no_integer c.one_int.ensures.fetches_one c.in_err-n.was; result_bound = omega arith; result_bound_2 = omega arith })
