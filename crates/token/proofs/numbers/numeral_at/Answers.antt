-- `token::numbers::numeral_at` meets its contract. The loop's invariant: the digits left, with n for those before, give the same answer.
-- Assumes nothing.
use Rattle.token.proofs.Digits.{numeral_none, numeral_start, numeral_bad, numeral_turn, numeral_over, numeral_end}
use native.Mathlib.Omega.{arith}
use Rattle.token.proofs.numbers.numeral_at.Goals as goal

pub returns-then-s-at : goal.returns-then-s-at
returns-then-s-at c = numeral_none _ _ _ _ _ c.if-s-at.true

pub loop-i-init : goal.loop-i-init
loop-i-init c = numeral_start _ _ _ _ _ c.if-s-at.false

pub returns-then-base-d : goal.returns-then-base-d
returns-then-base-d c = numeral_bad _ _ _ _ _ _ _ c.loop-i.invariant _ (omega arith) c.digit-d.ensures c.if-base-d.true

pub loop-i-preserved : goal.loop-i-preserved
loop-i-preserved c =
    numeral_turn _ _ _ _ _ _ _ c.loop-i.invariant _ _ c.requires.1 (omega arith) c.digit-d.ensures c.if-base-d.false c.with_digit-n.ensures

pub returns-then-limit-n : goal.returns-then-limit-n
returns-then-limit-n c = numeral_over _ _ _ _ _ _ _ c.loop-i.invariant (omega arith) c.if-limit-n.true

pub returns : goal.returns
returns c = numeral_end _ _ _ _ _ _ _ c.loop-i.invariant (omega arith) c.if-limit-n.false
