-- `reclaim` meets its contract: the first dead header is freed if its body is empty, and else the first cell of its body.
-- Assumes nothing.
use mathlib.Core.Path.{refl}
use Rattle.heap.proofs.Shapes.{room}
use Rattle.heap.proofs.Parts.{first_dead}
use Rattle.heap.proofs.reclaim.Goals as goal

pub size-n-requires : goal.size-n-requires
size-n-requires c = let P = c.requires in room P.0.2.heap.shape _ (first_dead P.0.2 P.1).2 refl
