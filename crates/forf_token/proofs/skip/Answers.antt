-- `forf_token::skip` meets its contract: each way to an answer by its law.
-- Assumes nothing.
use Rattle.forf_token.proofs.Skipping.{skip_ends}
use Rattle.forf_token.proofs.skip.Goals as goal

pub returns-clause-value : goal.returns-clause-value
returns-clause-value c = skip_ends _ _ _ c.loop-after.invariant.1 c.in_default.ensures
