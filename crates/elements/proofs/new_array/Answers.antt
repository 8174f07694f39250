-- `new_array` meets its contract: the object that is made takes the item's place (`array_moves`).
-- Assumes nothing.
use Rattle.elements.proofs.Making.{array_moves}
use native.Mathlib.Omega.{arith}
use Rattle.elements.proofs.new_array.Goals as goal

pub new_object-requires : goal.new_object-requires
new_object-requires c = let P = c.requires.2 in (c.requires.0, c.requires.1, (P.0, P.1, P.2, P.3, P.4))

pub returns : goal.returns
returns c = let N = c.new_object.ensures in record {
  moves_heap = array_moves c.requires.2.4 c.args.i (omega (arith, c.requires.0)) c.requires.2.5 c.args.n N.makes_object;
  depth_value = N.depth_value;
  room = N.room;
}
