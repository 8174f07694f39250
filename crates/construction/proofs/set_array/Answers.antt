-- `set_array` meets its contract: the object that is made is a procedure (`array_sets`).
-- Assumes nothing.
use Rattle.construction.proofs.Placing.{array_sets}
use Rattle.construction.proofs.set_array.Goals as goal

pub returns : goal.returns
returns c = record { sets_array = array_sets c.set_object.ensures.sets_object; same_but = c.set_object.ensures.same_but }
