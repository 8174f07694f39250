-- `token::numbers::number_of` meets its contract: each form reads its own digits, up to its own limit.
-- Assumes nothing.
use mathlib.Core.Path.{◌∙◌, refl, sym, ap}
use Rattle.token.specs.Numbers.{form_is}
use Rattle.token.proofs.Digits.{form_long, number_negative, number_fault, number_hexadecimal, number_plain}
use native.Mathlib.Omega.{arith}
use Rattle.std.proofs.lemmas.Result.{err_from_is_err_and}
use Rattle.token.proofs.numbers.number_of.Goals as goal

pub numeral_at-requires : goal.numeral_at-requires
numeral_at-requires c = let long = form_long _ _ (sym (ap form_is c.in-Negative.is) ∙ c.form_of.ensures) refl in
    (omega arith, omega arith, omega arith, omega arith, omega arith)

pub numeral_at-requires-in-Hexadecimal : goal.numeral_at-requires-in-Hexadecimal
numeral_at-requires-in-Hexadecimal c = let long = form_long _ _ (sym (ap form_is c.in-Hexadecimal.is) ∙ c.form_of.ensures) refl in
    (omega arith, omega arith, omega arith, omega arith, omega arith)

pub returns-in_err-n-in-Negative : goal.returns-in_err-n-in-Negative
returns-in_err-n-in-Negative c = let p = err_from_is_err_and c.from_residual.result c.from_residual.ensures.1 in rw (p.1, p.2)
    (number_fault _ _ (sym (ap form_is c.in-Negative.is) ∙ c.form_of.ensures) c.in_err-n-in-Negative.ensures)

pub returns-in_ok-n-in-Negative : goal.returns-in_ok-n-in-Negative
returns-in_ok-n-in-Negative c =
    number_negative _ _ (sym (ap form_is c.in-Negative.is) ∙ c.form_of.ensures) c.in_ok-n-in-Negative.ensures (omega arith) c.wrapping_neg.type_inv c.wrapping_neg.ensures

pub returns-in-Hexadecimal : goal.returns-in-Hexadecimal
returns-in-Hexadecimal c = c.numeral_at-in-Hexadecimal.ensures ∙ number_hexadecimal _ _ (sym (ap form_is c.in-Hexadecimal.is) ∙ c.form_of.ensures)

pub returns-in-Plain : goal.returns-in-Plain
returns-in-Plain c = c.numeral_at-in-Plain.ensures ∙ number_plain _ _ (sym (ap form_is c.in-Plain.is) ∙ c.form_of.ensures)
