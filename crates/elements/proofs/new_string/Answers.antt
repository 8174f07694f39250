-- `new_string` meets its contract: the object that is made takes the item's place (`string_moves`).
-- Assumes nothing.
use Rattle.elements.proofs.Making.{string_moves, few_cells}
use native.Mathlib.Omega.{arith}
use Rattle.elements.proofs.new_string.Goals as goal

pub overflow_add-n : goal.overflow_add-n
overflow_add-n c = omega (arith, few_cells c.requires.2.4, c.requires.1)

pub overflow_add-n-2 : goal.overflow_add-n-2
overflow_add-n-2 c = omega (arith, few_cells c.requires.2.4, c.requires.1)

pub new_object-requires : goal.new_object-requires
new_object-requires c = let P = c.requires.2 in (c.requires.0, c.requires.1, (P.0, P.1, P.2, P.3, P.4))

pub returns : goal.returns
returns c = let N = c.new_object.ensures in record {
  moves_heap = string_moves c.requires.2.4 c.args.i (omega (arith, c.requires.0)) c.requires.2.5 c.args.n N.makes_object;
  depth_value = N.depth_value;
}
