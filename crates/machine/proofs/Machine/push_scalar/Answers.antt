-- `machine::Machine::push_scalar` meets its contract: two words above the topmost item are one item more, and no place names an object that it did not.
-- Assumes nothing.
use Rattle.machine.proofs.Operands.{pushed}
use mathlib.Core.Path.{refl}
use Rattle.machine.proofs.Machine.push_scalar.Goals as goal

pub returns : goal.returns
returns c = record { pushes = record { does = λ sc e d k l μ R. rw c.set_item.ensures (pushed R _ _ c.requires sc) }; depth_value = refl }
