-- `turns::kind_after` meets its contract: by whether the sum has 32 bits.
-- Assumes nothing.
use mathlib.Core.Path.{sym, ap, ◌∙◌}
use mathlib.Core.Bool.{cond}
use Rattle.turns.proofs.kind_after.Goals as goal

pub returns-then-sum_fits : goal.returns-then-sum_fits
returns-then-sum_fits c = sym (ap (λ b. cond b 4 5) (sym c.sum_fits.ensures ∙ c.if-sum_fits.true))

pub returns : goal.returns
returns c = sym (ap (λ b. cond b 4 5) (sym c.sum_fits.ensures ∙ c.if-sum_fits.false))
