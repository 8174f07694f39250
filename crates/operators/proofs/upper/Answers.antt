-- `operators::upper` meets its contract: each branch by the family that it calls.
-- Assumes nothing.
use Rattle.control_operators.proofs.Promising.{cells_frames}
use Rattle.operators.proofs.Named.{settled_frames}
use Rattle.operators.proofs.upper.Goals as goal

pub returns-then-k-lt36 : goal.returns-then-k-lt36
returns-then-k-lt36 c = cells_frames _ c.endings.ensures _

pub returns : goal.returns
returns c = settled_frames c.settled.ensures c.arrays.ensures _
