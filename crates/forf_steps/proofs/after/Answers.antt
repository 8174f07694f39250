-- `forf_steps::after` meets its contract: each way to an answer by its law.
-- Assumes nothing.
use Rattle.forf_steps.proofs.Choosing.{none, some}
use Rattle.forf_steps.specs.Stepping.{state_after}
use Rattle.forf_steps.proofs.after.Goals as goal

pub returns-then-old-eq0 : goal.returns-then-old-eq0
unfolding state_after
returns-then-old-eq0 c = none _ c.if-old-eq0.true

pub returns : goal.returns
unfolding state_after
returns c = some _ c.if-old-eq0.false
