-- `text::integer_length` meets its contract. By the two halves of the words: a word of the upper half has a minus sign before its magnitude.
-- Assumes nothing.
use mathlib.Core.Path.{sym, ap, ◌∙◌}
use native.Mathlib.Omega.{arith}
use lib.ListN.{length}
use Rattle.semantics.specs.TextLaws.{decimal_length}
use Rattle.text.proofs.Decimals.{integer_low, integer_high}
use Rattle.text.proofs.integer_length.Goals as goal

pub returns-then-w-lt2147483648 : goal.returns-then-w-lt2147483648
returns-then-w-lt2147483648 c = c.decimal_length.ensures ∙ sym (ap length (integer_low _ c.if-w-lt2147483648.true))

pub overflow_add-result : goal.overflow_add-result
overflow_add-result c = omega (arith, decimal_length c.magnitude.result)

pub returns : goal.returns
returns c = omega (arith, ap length (integer_high c.args.w c.magnitude.result c.if-w-lt2147483648.false c.ranges.w.fits c.magnitude.ensures))
