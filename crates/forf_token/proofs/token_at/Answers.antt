-- `forf_token::token_at` meets its contract: each way to an answer by its law.
-- Assumes nothing.
use mathlib.Core.Path.{sym, ◌∙◌}
use Rattle.forf_token.proofs.Lexemes.{end_token, open_token, close_token, other_fault}
use Rattle.forf_token.proofs.token_at.Goals as goal

pub returns-then-script-start : goal.returns-then-script-start
returns-then-script-start c = end_token _ _ c.requires.0 c.if-script-start.true

pub run_at-requires : goal.run_at-requires
run_at-requires c = record { inside = c.if-script-start.false; is = sym c.is_end.ensures ∙ c.if-not-is_end.true; short = c.requires.1 }

pub returns-then-not-is_end : goal.returns-then-not-is_end
returns-then-not-is_end c = c.run_at.ensures

pub returns-then-b-eq123 : goal.returns-then-b-eq123
returns-then-b-eq123 c = open_token _ _ c.if-script-start.false _ c.is_end.ensures (c.if-not-is_end.false) c.if-b-eq123.true

pub returns-then-b-eq125 : goal.returns-then-b-eq125
returns-then-b-eq125 c = close_token _ _ c.if-script-start.false _ c.is_end.ensures (c.if-not-is_end.false) c.if-b-eq125.true

pub returns : goal.returns
returns c = other_fault _ _ c.if-script-start.false _ c.is_end.ensures (c.if-not-is_end.false) c.if-b-eq123.false c.if-b-eq125.false
