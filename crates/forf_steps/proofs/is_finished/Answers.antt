-- `forf_steps::is_finished` meets its contract: each way to an answer by its law.
-- Assumes nothing.
use Rattle.forf_steps.proofs.Choosing.{below, above}
use Rattle.forf_steps.specs.Stepping.{is_done}
use lib.ListN.{length}
use lib.Dec.{eqb}
use mathlib.Core.Path.{ap, ◌∙◌}
use Rattle.forf_steps.proofs.is_finished.Goals as goal

pub returns-then-m-gt0 : goal.returns-then-m-gt0
unfolding is_done
returns-then-m-gt0 c = above _ c.if-m-gt0.true

pub returns : goal.returns
unfolding is_done
returns c = ap (λ n. eqb n (length c.args.script.now)) c.skip.ensures.value ∙ below _ c.if-m-gt0.false
