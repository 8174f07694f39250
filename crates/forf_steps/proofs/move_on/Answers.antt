-- `forf_steps::move_on` meets its contract: each way to an answer by its law.
-- Assumes nothing.
use Rattle.forf_steps.proofs.Choosing.{below, above}
use Rattle.forf_steps.specs.Stepping.{moved_on}
use mathlib.Core.Path.{◌∙◌}
use Rattle.forf_steps.proofs.move_on.Goals as goal

pub returns-then-m-gt0 : goal.returns-then-m-gt0
unfolding moved_on
returns-then-m-gt0 c = c.put.ensures ∙ above _ c.if-m-gt0.true

pub returns-else-m-gt0 : goal.returns-else-m-gt0
unfolding moved_on
returns-else-m-gt0 c = below _ c.if-m-gt0.false
