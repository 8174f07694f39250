-- `is_sealed` meets its contract: the bit that it reads is the one that `is_sealed` reads.
-- Assumes nothing.
use Prim.Native.Nat.{◌/◌, ◌%◌}
use mathlib.Core.Path.{ap}
use lib.Dec.{eqb}
use Rattle.heap.specs.Shape.{size_unit}
use Rattle.heap.specs.Reading.{is_sealed}
use Rattle.heap.proofs.is_sealed.Goals as goal

pub returns : goal.returns
unfolding is_sealed
returns c = ap (λ w. eqb (w / size_unit % 2) 1) c.get.ensures
