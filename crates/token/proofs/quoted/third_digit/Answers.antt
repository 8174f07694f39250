-- `token::quoted::third_digit` meets its contract: the three digits write a byte.
-- Assumes nothing.
use Prim.Native.Nat.{◌+◌, ◌*◌}
use Rattle.token.proofs.Classes.{within_low, within_high}
use Rattle.token.proofs.Escapes.{octal_broken, octal_third}
use native.Mathlib.Omega.{arith}
use mathlib.Core.Path.{◌∙◌}
use Rattle.token.proofs.quoted.third_digit.Goals as goal

pub is_octal-requires : goal.is_octal-requires
is_octal-requires c = tt

pub broken_off-requires : goal.broken_off-requires
broken_off-requires c = tt

pub returns-then-not-is_octal : goal.returns-then-not-is_octal
returns-then-not-is_octal c = let args = c.args in
    c.broken_off.ensures ∙ octal_broken args.b _ c.is_octal.ensures 1 (args.d * 8 + args.e) (c.if-not-is_octal.true)

pub overflow_mul-result : goal.overflow_mul-result
overflow_mul-result c = omega arith

pub overflow_add-result : goal.overflow_add-result
overflow_add-result c = omega arith

pub overflow_mul-result-2 : goal.overflow_mul-result-2
overflow_mul-result-2 c = omega arith

pub overflow_sub-result : goal.overflow_sub-result
overflow_sub-result c = within_low 48 55 _ _ c.is_octal.ensures (c.if-not-is_octal.false)

pub overflow_add-result-2 : goal.overflow_add-result-2
overflow_add-result-2 c = let args = c.args in
    let high = within_high 48 55 args.b _ c.is_octal.ensures (c.if-not-is_octal.false) in
    omega (arith, high)

pub returns : goal.returns
returns c = let args = c.args in
    octal_third args.b _ c.is_octal.ensures (args.d * 8 + args.e) (c.if-not-is_octal.false)
