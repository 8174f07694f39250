-- `token::numbers::form_of` meets its contract, by the length of the run and the tests of its first two bytes.
-- Assumes nothing.
use Rattle.token.proofs.Digits.{form_short, form_negative, form_plain, form_hexadecimal, form_zero}
use Rattle.token.proofs.numbers.form_of.Goals as goal

pub returns-then-s-lt2 : goal.returns-then-s-lt2
returns-then-s-lt2 c = form_short _ c.if-s-lt2.true

pub returns-then-b-eq45 : goal.returns-then-b-eq45
returns-then-b-eq45 c = let args = c.args in
    form_negative args.s.now c.if-s-lt2.false c.if-b-eq45.true

pub returns-then-b-ne48 : goal.returns-then-b-ne48
returns-then-b-ne48 c = let args = c.args in
    form_plain args.s.now c.if-s-lt2.false c.if-b-eq45.false c.if-b-ne48.true

pub returns-then-x-eq120 : goal.returns-then-x-eq120
returns-then-x-eq120 c = let args = c.args in
    form_hexadecimal args.s.now c.if-s-lt2.false c.if-b-ne48.false c.if-x-eq120.true

pub returns : goal.returns
returns c = let args = c.args in
    form_zero args.s.now c.if-s-lt2.false c.if-b-ne48.false c.if-x-eq120.false
