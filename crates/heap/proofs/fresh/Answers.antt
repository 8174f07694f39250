-- `fresh` meets its contract: its answer is the lists of the empty heap.
-- Assumes nothing.
use Rattle.heap.proofs.Starts.{empty}
use Rattle.heap.proofs.fresh.Goals as goal

pub returns : goal.returns
returns c = empty
