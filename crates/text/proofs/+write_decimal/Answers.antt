-- `text::write_decimal` meets its contract: one digit is the number itself; else the number without its last digit is written before, and that digit after it.
-- Assumes nothing.
use Rattle.std.proofs.Common.{arith}
use Rattle.text.proofs.Decimals.{decimal_longer, decimal_some, digit_written, digits_written}
use Rattle.text.proofs.+write_decimal.Goals as goal

pub bounds-out-at : goal.bounds-out-at
bounds-out-at t c = omega (arith, decimal_some c.args.n c.ranges.n.fits)

pub returns-then-n-lt10 : goal.returns-then-n-lt10
returns-then-n-lt10 t c = digit_written _ c.if-n-lt10.true (omega (arith, decimal_some c.args.n c.ranges.n.fits))

pub write_decimal-last-requires : goal.write_decimal-last-requires
write_decimal-last-requires t c = (omega arith, omega (arith, decimal_longer c.args.n c.if-n-lt10.false c.ranges.n.fits))

pub bounds-out-last : goal.bounds-out-last
bounds-out-last t c = omega (arith, decimal_longer c.args.n c.if-n-lt10.false c.ranges.n.fits, c.write_decimal-last.ensures.end)

pub overflow_add-result-2 : goal.overflow_add-result-2
overflow_add-result-2 t c = omega (arith, decimal_longer c.args.n c.if-n-lt10.false c.ranges.n.fits, c.write_decimal-last.ensures.end)

pub returns : goal.returns
returns t c =
    digits_written _ c.if-n-lt10.false c.ranges.n.fits (omega arith)
    (omega (arith, decimal_longer c.args.n c.if-n-lt10.false c.ranges.n.fits, c.write_decimal-last.ensures.end))
    c.write_decimal-last.ensures
