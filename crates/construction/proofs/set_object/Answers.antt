-- `set_object` meets its contract: the object that is made goes from the hand to the cell and gets the mark.
-- Assumes nothing.
use mathlib.Core.Path.{refl}
use Rattle.construction.proofs.Placing.{made_inside, cells_left}
use Rattle.construction.proofs.set_object.Goals as goal

pub seal-requires : goal.seal-requires
seal-requires c = rw (c.put-2.ensures.size, c.put.ensures.size) (made_inside c.requires.2.1.4 c.allocate-t.ensures.1)

pub returns : goal.returns
returns c = let made = c.allocate-t.ensures in record {
  sets_object = record { made_words = _; tagged = _; paid = _; made = made.1; none_dead = made.2; tag_put = c.put.ensures; pay_put = c.put-2.ensures; seals = c.seal.ensures; rest = refl };
  same_but = (
    record { depth = refl; frames = refl; names = refl; written = refl },
    cells_left c.requires.2.1.4 made.1 made.0 c.put.ensures c.put-2.ensures c.seal.ensures,
  );
}
