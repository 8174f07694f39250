-- `text::write_integer` meets its contract. By the two halves of the words: a word of the upper half has a minus sign before its magnitude.
-- Assumes nothing.
use mathlib.Core.Path.{ap, ◌∙◌}
use native.Mathlib.Omega.{arith}
use lib.ListN.{length, length-set}
use Rattle.text.proofs.Pasting.{first, respelt}
use Rattle.text.proofs.Decimals.{integer_low, integer_high}
use Rattle.text.proofs.write_integer.Goals as goal

pub write_decimal-requires : goal.write_decimal-requires
write_decimal-requires c = omega (arith, ap length (integer_low c.args.w c.if-w-lt2147483648.true))

pub returns-then-w-lt2147483648 : goal.returns-then-w-lt2147483648
returns-then-w-lt2147483648 c = respelt (integer_low _ c.if-w-lt2147483648.true) c.write_decimal.ensures

pub bounds-out-at : goal.bounds-out-at
bounds-out-at c = omega (arith, ap length (integer_high c.args.w c.magnitude-size.result c.if-w-lt2147483648.false c.ranges.w.fits c.magnitude-size.ensures))

pub write_decimal-requires-2 : goal.write_decimal-requires-2
write_decimal-requires-2 c = let high = integer_high c.args.w c.magnitude-size.result c.if-w-lt2147483648.false c.ranges.w.fits c.magnitude-size.ensures in
    simp length-set (omega (arith, ap length high))

pub shape_of-out : goal.shape_of-out
shape_of-out c = c.write_decimal-2.auto.out ∙ simp length-set

pub returns : goal.returns
returns c = let high = integer_high c.args.w c.magnitude-size.result c.if-w-lt2147483648.false c.ranges.w.fits c.magnitude-size.ensures in
    respelt high (first c.args.at 45 c.args.out.now (omega (arith, ap length high, c.requires)) c.write_decimal-2.ensures)
