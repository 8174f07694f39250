-- `forf_token::run_end` meets its contract.
-- Assumes nothing.
use Rattle.std.proofs.Common.{rules, sym, ap, ◌+◌, ◌∙◌}
use Rattle.forf_semantics.specs.Tokens.{is_end}
use Rattle.forf_token.proofs.Counts.{run_position}
use Rattle.forf_token.proofs.run_end.Goals as goal

pub returns-clause-value : goal.returns-clause-value
returns-clause-value c = c.first_from.ensures.value is_end (λ b r k. search rules) ∙ ap (λ k. c.args.at + k) (sym (run_position _))
