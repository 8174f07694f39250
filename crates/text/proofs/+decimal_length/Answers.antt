-- `text::decimal_length` meets its contract: one digit, or one more than the number has without its last.
-- Assumes nothing.
use Rattle.std.proofs.Common.{arith, sym, ap, ◌∙◌, ◌+◌, ◌/◌, length}
use Rattle.semantics.specs.TextLaws.{decimal_length}
use Rattle.text.proofs.Decimals.{decimal_digit, decimal_longer}
use Rattle.text.proofs.+decimal_length.Goals as goal

pub overflow_add-result : goal.overflow_add-result
overflow_add-result t c = omega (arith, c.decimal_length.ensures, decimal_length (c.args.n / 10))

pub returns-then-n-ge10 : goal.returns-then-n-ge10
returns-then-n-ge10 t c = ap (λ k. k + 1) c.decimal_length.ensures ∙ sym (decimal_longer c.args.n c.if-n-ge10.true c.ranges.n.fits)

pub returns : goal.returns
returns t c = sym (ap length (decimal_digit c.args.n (omega arith)))
