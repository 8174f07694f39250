-- `token::bytes::run_end` meets its contract.
-- Assumes nothing.
use Rattle.std.proofs.Common.{rules, not, sym, ap, ◌+◌, ◌∙◌}
use Rattle.semantics.specs.Tokens.{is_name_byte}
use Rattle.token.proofs.Blanks.{run_position}
use Rattle.token.proofs.bytes.run_end.Goals as goal

pub returns-clause-value : goal.returns-clause-value
returns-clause-value c =
    c.first_from.ensures.value (λ b. not (is_name_byte b)) (λ b r k. search rules) ∙ ap (λ k. c.args.at + k) (sym (run_position _))
