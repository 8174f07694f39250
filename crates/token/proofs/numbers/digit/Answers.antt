-- `token::numbers::digit` meets its contract: each range that holds gives its difference, and none of them gives 16.
-- Assumes nothing.
use Rattle.token.proofs.Classes.{within_low}
use Rattle.token.proofs.Digits.{digit_decimal, digit_lower, digit_upper, digit_none}
use native.Mathlib.Omega.{arith}
use Rattle.token.proofs.numbers.digit.Goals as goal

pub is_digit-requires : goal.is_digit-requires
is_digit-requires c = tt

pub overflow_sub-result : goal.overflow_sub-result
overflow_sub-result c = within_low 48 57 _ _ c.is_digit.ensures c.if-is_digit.true

pub returns-then-is_digit : goal.returns-then-is_digit
returns-then-is_digit c = let args = c.args in
    digit_decimal args.b _ c.is_digit.ensures c.if-is_digit.true

pub within-requires : goal.within-requires
within-requires c = tt

pub overflow_sub-result-then-within : goal.overflow_sub-result-then-within
overflow_sub-result-then-within c = let args = c.args in
    omega (arith, within_low 97 102 args.b _ c.within.ensures c.if-within.true)

pub returns-then-within : goal.returns-then-within
returns-then-within c = let args = c.args in
    digit_lower args.b _ _ c.is_digit.ensures c.if-is_digit.false c.within.ensures c.if-within.true

pub within-requires-2 : goal.within-requires-2
within-requires-2 c = tt

pub overflow_sub-result-then-within-2 : goal.overflow_sub-result-then-within-2
overflow_sub-result-then-within-2 c = let args = c.args in
    omega (arith, within_low 65 70 args.b _ c.within-2.ensures c.if-within-2.true)

pub returns-then-within-2 : goal.returns-then-within-2
returns-then-within-2 c = let args = c.args in
    digit_upper args.b _ _ c.is_digit.ensures c.if-is_digit.false c.within.ensures _ c.if-within.false c.within-2.ensures c.if-within-2.true

pub returns : goal.returns
returns c = let args = c.args in
    digit_none args.b _ _ c.is_digit.ensures c.if-is_digit.false c.within.ensures _ c.if-within.false c.within-2.ensures c.if-within-2.false
