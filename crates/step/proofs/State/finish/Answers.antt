-- `finish` meets its contract.
-- Assumes nothing.
use mathlib.Core.Path.{refl}
use Rattle.step.proofs.State.finish.Goals as goal

pub returns : goal.returns
returns c = refl
