-- `token::quoted::act_on` meets its contract: each state's arm is the definition's clause for it.
-- Assumes nothing.
use mathlib.Core.Path.{◌∙◌}
use Rattle.token.proofs.Classes.{within_low}
use Rattle.token.proofs.Escapes.{return_break, return_plain, nothing_plain, octal_broken, octal_second}
use mathlib.Core.Path.{◌∙◌, subst}
use Rattle.token.specs.Strings.{met_is, Small}
use native.Mathlib.Omega.{arith}
use Rattle.token.proofs.quoted.act_on.Goals as goal

pub plain_act-requires : goal.plain_act-requires
plain_act-requires c = tt

pub escape_act-requires : goal.escape_act-requires
escape_act-requires c = tt

pub returns-then-b-eq10 : goal.returns-then-b-eq10
returns-then-b-eq10 c = rw c.in-Return.is (return_break _ c.if-b-eq10.true)

pub plain_act-requires-in-Return : goal.plain_act-requires-in-Return
plain_act-requires-in-Return c = tt

pub is_octal-requires : goal.is_octal-requires
is_octal-requires c = tt

pub overflow_sub-result : goal.overflow_sub-result
overflow_sub-result c = within_low 48 55 _ _ c.is_octal.ensures c.if-is_octal.true

pub returns-then-is_octal : goal.returns-then-is_octal
returns-then-is_octal c = let args = c.args in
    rw c.in-Digit.is (octal_second args.b _ c.is_octal.ensures _ c.if-is_octal.true)

pub broken_off-requires : goal.broken_off-requires
broken_off-requires c = tt

pub third_digit-requires : goal.third_digit-requires
third_digit-requires c = let pre = c.requires in
    omega (arith, subst (λ m. Small (met_is m)) c.in-Digits.is (pre))

pub returns-in-Nothing : goal.returns-in-Nothing
returns-in-Nothing c = rw c.in-Nothing.is (c.plain_act.ensures ∙ nothing_plain _)

pub returns-in-Backslash : goal.returns-in-Backslash
returns-in-Backslash c = rw c.in-Backslash.is c.escape_act.ensures

pub returns-else-b-eq10 : goal.returns-else-b-eq10
returns-else-b-eq10 c = rw c.in-Return.is (c.plain_act-in-Return.ensures ∙ return_plain _ c.if-b-eq10.false)

pub returns-else-is_octal : goal.returns-else-is_octal
returns-else-is_octal c = let args = c.args in
    rw c.in-Digit.is (c.broken_off.ensures ∙ octal_broken args.b _ c.is_octal.ensures 2 _ c.if-is_octal.false)

pub returns-in-Digits : goal.returns-in-Digits
returns-in-Digits c = rw c.in-Digits.is c.third_digit.ensures
