-- `bind_item` meets its contract: the root place of the slot's binding takes the item's value.
-- Assumes nothing.
use native.Mathlib.Omega.{arith}
use mathlib.Core.Path.{refl}
use Rattle.machine.proofs.Copying.{words_of}
use Rattle.dictionary.proofs.Rebinding.{slot_room, bind_placed, bind_rep}
use Rattle.dictionary.proofs.bind_item.Goals as goal

pub binding-old-requires : goal.binding-old-requires
binding-old-requires c = let R = c.requires.1.5 in (slot_room R _ _ c.requires.1.4, R.rooms.dict_few)

pub recount-left-requires : goal.recount-left-requires
recount-left-requires c = let R = c.requires.1.5 in
    rw (c.binding-old.ensures.0, c.binding-old.ensures.1)
    (bind_placed R _ _ c.requires.1.4 (words_of R c.args.i _ (omega (arith, c.requires.0)) c.item-new.ensures.0 c.item-new.ensures.1))

pub set_binding-requires : goal.set_binding-requires
set_binding-requires c = let R = c.requires.1.5 in (slot_room R _ _ c.requires.1.4, R.rooms.dict_few)

pub returns : goal.returns
returns c = record {
  binds_item = record {
    moves = λ e l μ R n key.
        rw c.set_binding.ensures
        (bind_rep R _ n key (words_of R c.args.i _ (omega (arith, c.requires.0)) c.item-new.ensures.0 c.item-new.ensures.1)
        (rw (c.binding-old.ensures.0, c.binding-old.ensures.1) at c.recount-left.ensures));
  };
  depth_value = refl;
}
