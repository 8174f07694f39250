-- `set_string` meets its contract: the object that is made is a string (`string_sets`). There are few cells, so the numbers fit.
-- Assumes nothing.
use Rattle.construction.proofs.Placing.{string_sets}
use native.Mathlib.Omega.{arith}
use Rattle.elements.proofs.Making.{few_cells}
use Rattle.construction.proofs.set_string.Goals as goal

pub overflow_add-n : goal.overflow_add-n
overflow_add-n c = omega (arith, c.requires.0, few_cells c.requires.2.1.4)

pub overflow_add-n-2 : goal.overflow_add-n-2
overflow_add-n-2 c = omega (arith, c.requires.0, few_cells c.requires.2.1.4)

pub returns : goal.returns
returns c = record { sets_string = string_sets c.set_object.ensures.sets_object; same_but = c.set_object.ensures.same_but }
