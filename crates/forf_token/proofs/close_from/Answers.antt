-- `forf_token::close_from` meets its contract.
-- Assumes nothing.
use Rattle.std.proofs.Common.{rules, sym, ap, ◌+◌, ◌∙◌}
use lib.Dec.{eqb}
use Rattle.forf_token.proofs.Counts.{until_position}
use Rattle.forf_token.proofs.close_from.Goals as goal

pub returns-clause-value : goal.returns-clause-value
returns-clause-value c = c.first_from.ensures.value (λ b. eqb b 41) (λ b r k. search rules) ∙ ap (λ k. c.args.at + k) (sym (until_position _))
