-- `forf_steps::failed` meets its contract: each way to an answer by its law.
-- Assumes nothing.
use Rattle.forf_steps.specs.Stepping.{state_failed}
use Rattle.forf_steps.proofs.failed.Goals as goal

pub returns : goal.returns
unfolding state_failed
returns c = c.after.ensures
