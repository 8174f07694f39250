-- `token::numbers::with_digit` meets its contract: at most the limit, the number and its digit fit 64 bits.
-- Assumes nothing.
use Rattle.token.proofs.Digits.{digit_stays, digit_more, product_fits}
use native.Mathlib.Omega.{arith}
use Rattle.token.proofs.numbers.with_digit.Goals as goal

pub returns-then-limit-n : goal.returns-then-limit-n
returns-then-limit-n c = digit_stays _ _ _ _ c.if-limit-n.true

pub overflow_mul-result : goal.overflow_mul-result
overflow_mul-result c = let args = c.args in
    let fits = product_fits args.limit args.base args.n c.requires.0 c.requires.1 c.if-limit-n.false in
    omega arith

pub overflow_add-result : goal.overflow_add-result
overflow_add-result c = let args = c.args in
    let fits = product_fits args.limit args.base args.n c.requires.0 c.requires.1 c.if-limit-n.false in
    omega arith

pub returns : goal.returns
returns c = digit_more _ _ _ _ c.if-limit-n.false
