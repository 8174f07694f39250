-- `set_plain` meets its contract: the two words go to the cell, and nothing is in hand (`plain_sets`).
-- Assumes nothing.
use Rattle.construction.proofs.Placing.{plain_sets}
use Rattle.construction.proofs.set_plain.Goals as goal

pub returns : goal.returns
returns c = plain_sets c.requires.0 c.put.ensures c.put-2.ensures
