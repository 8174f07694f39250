-- `forf_token::locate` meets its contract: each way to an answer by its law.
-- Assumes nothing.
use Rattle.std.proofs.lemmas.Result.{err_from_is_err_and}
use Rattle.forf_token.proofs.Readings.{too_long, past_end, located_fault, located_token}
use Rattle.forf_token.proofs.locate.Goals as goal

pub returns-then-script-gt-SCRIPT_MOST : goal.returns-then-script-gt-SCRIPT_MOST
returns-then-script-gt-SCRIPT_MOST c = too_long c.if-script-gt-SCRIPT_MOST.true

pub returns-then-script-offset : goal.returns-then-script-offset
returns-then-script-offset c = past_end c.if-script-gt-SCRIPT_MOST.false c.if-script-offset.true

pub returns-in_err-token : goal.returns-in_err-token
returns-in_err-token c = let p = err_from_is_err_and c.from_residual.result c.from_residual.ensures.1 in rw (p.1, p.2)
    (located_fault (record { short = c.if-script-gt-SCRIPT_MOST.false; known = c.if-script-offset.false; begins = c.skip-start.ensures.value }) c.in_err-token.ensures)

pub returns : goal.returns
returns c = located_token (record { short = c.if-script-gt-SCRIPT_MOST.false; known = c.if-script-offset.false; begins = c.skip-start.ensures.value }) _ _ _ c.in_ok-token.ensures c.own_part.ensures
