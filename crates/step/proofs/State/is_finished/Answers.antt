-- `is_finished` meets its contract: as the definition asks it.
-- Assumes nothing.
use Rattle.step.proofs.Finishing.{finished_by, unfinished}
use Rattle.step.proofs.State.is_finished.Goals as goal

pub skip-requires : goal.skip-requires
skip-requires c = c.requires

pub returns-then-m-eq0 : goal.returns-then-m-eq0
returns-then-m-eq0 c = finished_by c.if-m-eq0.true c.skip.ensures.value

pub returns : goal.returns
returns c = unfinished c.if-m-eq0.false
