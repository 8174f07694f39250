-- `token::numbers::starts_number` meets its contract, by the length of the run and the tests of its first two bytes.
-- Assumes nothing.
use Rattle.token.proofs.Digits.{starts_none, starts_digit, starts_alone, starts_other, starts_minus}
use Rattle.token.proofs.numbers.starts_number.Goals as goal

pub returns-then-s-eq0 : goal.returns-then-s-eq0
returns-then-s-eq0 c = starts_none _ c.if-s-eq0.true

pub is_digit-requires : goal.is_digit-requires
is_digit-requires c = tt

pub returns-then-is_digit : goal.returns-then-is_digit
returns-then-is_digit c = let args = c.args in
    starts_digit _ args.s.now c.if-s-eq0.false c.is_digit.ensures c.if-is_digit.true

pub returns-then-s-eq1 : goal.returns-then-s-eq1
returns-then-s-eq1 c = let args = c.args in
    starts_alone _ args.s.now c.if-s-eq1.true c.is_digit.ensures c.if-is_digit.false

pub returns-then-b-ne45 : goal.returns-then-b-ne45
returns-then-b-ne45 c = let args = c.args in
    starts_other _ args.s.now c.if-s-eq0.false c.if-s-eq1.false c.is_digit.ensures c.if-is_digit.false c.if-b-ne45.true

pub is_digit-requires-2 : goal.is_digit-requires-2
is_digit-requires-2 c = tt

pub returns : goal.returns
returns c = let args = c.args in
    starts_minus _ args.s.now _ c.if-s-eq0.false c.if-s-eq1.false c.is_digit.ensures c.if-is_digit.false c.if-b-ne45.false c.is_digit-2.ensures
