-- `token::numbers::signs` meets its contract, by the tests that led to each return.
-- Assumes nothing.
use Rattle.token.proofs.Digits.{signs_none, signs_digit, signs_other}
use Rattle.token.proofs.numbers.signs.Goals as goal

pub returns-then-s-eq0 : goal.returns-then-s-eq0
returns-then-s-eq0 c = signs_none _ c.if-s-eq0.true

pub returns-then-is_digit : goal.returns-then-is_digit
returns-then-is_digit c = signs_digit _ _ c.is_digit.ensures c.if-is_digit.true

pub returns : goal.returns
returns c = signs_other _ _ c.if-s-eq0.false c.is_digit.ensures c.if-is_digit.false
