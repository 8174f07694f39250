-- `new_object` meets its contract: the object that is made takes the item's words.
-- Assumes nothing.
use Rattle.elements.proofs.Making.{room_to_make, cells_used}
use mathlib.Core.Path.{refl}
use Rattle.elements.proofs.new_object.Goals as goal

pub allocate-t-requires : goal.allocate-t-requires
allocate-t-requires c = let R = c.requires.2.4 in record { full = (_, R.world.ghost, R.stored.full); room = room_to_make R _ c.requires.1 }

pub returns : goal.returns
returns c = let made = c.allocate-t.ensures in record {
  makes_object = record { header = c.allocate-t.result.cell; made = made.1; none_dead = made.2; used = made.0; words = c.set_item.ensures; rest = refl };
  depth_value = refl;
  room = cells_used c.requires.2.4 made.1 made.0;
}
