-- `put` meets its contract: one store to the slice is one store to a word (`put_set`).
-- Assumes nothing.
use Rattle.heap.proofs.Words.{put_set}
use Rattle.heap.proofs.put.Goals as goal

pub returns : goal.returns
returns c = put_set _ _ _ _ c.requires.0 c.requires.1
