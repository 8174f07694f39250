-- `forf_machine::put` meets its contract: each way to an answer by its law.
-- Assumes nothing.
use Rattle.forf_machine.specs.Slots.{put_slot}
use mathlib.Core.Path.{refl}
use Rattle.forf_machine.proofs.put.Goals as goal

pub returns : goal.returns
unfolding put_slot
returns c = refl
