-- `token::quoted::broken_off` meets its contract, by its test.
-- Assumes nothing.
use mathlib.Core.Path.{sym, ◌∙◌}
use Rattle.token.proofs.quoted.broken_off.Goals as goal

pub is_break-requires : goal.is_break-requires
is_break-requires c = tt

pub returns-then-is_break : goal.returns-then-is_break
returns-then-is_break c = rw (sym c.is_break.ensures ∙ c.if-is_break.true)

pub returns : goal.returns
returns c = rw (sym c.is_break.ensures ∙ c.if-is_break.false)
