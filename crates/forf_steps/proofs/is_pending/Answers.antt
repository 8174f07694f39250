-- `forf_steps::is_pending` meets its contract: each way to an answer by its law.
-- Assumes nothing.
use Rattle.forf_steps.proofs.Choosing.{none, some}
use Rattle.forf_steps.specs.Stepping.{is_pending}
use Rattle.forf_steps.proofs.is_pending.Goals as goal

pub returns-then-m-eq0 : goal.returns-then-m-eq0
unfolding is_pending
returns-then-m-eq0 c = none _ c.if-m-eq0.true

pub returns : goal.returns
unfolding is_pending
returns c = some _ c.if-m-eq0.false
