-- `machine::Machine::forget_frame` meets its contract: a count falls, and no word changes.
-- Assumes nothing.
use mathlib.Core.Path.{refl}
use Rattle.machine.proofs.Forgetting.{forgets}
use Rattle.machine.proofs.Machine.forget_frame.Goals as goal

pub returns : goal.returns
returns c = record { forgets_frame = forgets c.requires; depth_value = (refl, refl) }
