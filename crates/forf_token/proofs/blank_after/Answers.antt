-- `forf_token::blank_after` meets its contract: each way to an answer by its law.
-- Assumes nothing.
use Rattle.forf_token.proofs.Skipping.{skips_space, skips_other, skips_unclosed, skips_comment, blanks_end}
use native.Mathlib.Omega.{arith}
use Rattle.forf_token.proofs.blank_after.Goals as goal

pub returns-then-at-script : goal.returns-then-at-script
returns-then-at-script c = blanks_end c.args.script.now c.args.at (omega arith)

pub returns-then-is_space : goal.returns-then-is_space
returns-then-is_space c = skips_space c.args.script.now c.args.at (omega arith) _ c.is_space.ensures c.if-is_space.true

pub returns-then-b-ne40 : goal.returns-then-b-ne40
returns-then-b-ne40 c = skips_other c.args.script.now c.args.at (omega arith) _ c.is_space.ensures c.if-is_space.false c.if-b-ne40.true

pub returns-then-close-script : goal.returns-then-close-script
returns-then-close-script c = skips_unclosed c.args.script.now c.args.at (omega arith) _ _ c.is_space.ensures c.if-is_space.false c.close_from-close.ensures.value c.if-close-script.true

pub returns : goal.returns
returns c = skips_comment c.args.script.now c.args.at (omega arith) _ c.if-b-ne40.false c.close_from-close.ensures.value c.close_from-close.ensures.upper_bound c.if-close-script.false
