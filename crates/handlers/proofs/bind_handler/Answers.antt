-- `bind_handler` meets its contract: the root place of the row's handler takes the item's value.
-- Assumes nothing.
use Rattle.handlers.proofs.Setting.{rows_room, set_placed, set_rep}
use Rattle.handlers.proofs.Errors.{name_is}
use Rattle.machine.proofs.Copying.{words_of}
use mathlib.Core.Path.{refl}
use native.Mathlib.Omega.{arith}
use Rattle.handlers.proofs.bind_handler.Goals as goal

pub handler-old-requires : goal.handler-old-requires
handler-old-requires c = let R = c.requires.2.5 in (c.requires.1, rows_room R, R.rooms.dict_few)

pub recount-left-requires : goal.recount-left-requires
recount-left-requires c = let R = c.requires.2.5 in
    rw (c.handler-old.ensures.0, c.handler-old.ensures.1)
    (set_placed R _ _ (name_is _ c.requires.1) (words_of R c.args.i _ (omega (arith, c.requires.0)) c.item-new.ensures.0 c.item-new.ensures.1))

pub set_handler-requires : goal.set_handler-requires
set_handler-requires c = let R = c.requires.2.5 in (c.requires.1, rows_room R, R.rooms.dict_few)

pub bounds-dict-row : goal.bounds-dict-row
bounds-dict-row c = omega (arith, c.set_handler.auto.dict, rows_room c.requires.2.5, c.requires.1)

pub returns : goal.returns
returns c = record {
  binds_handler = record {
    moves = λ e l μ R n key row.
        rw c.set_handler.ensures
        (set_rep R _ n row (words_of R c.args.i _ (omega (arith, c.requires.0)) c.item-new.ensures.0 c.item-new.ensures.1) _ key
        (rw (c.handler-old.ensures.0, c.handler-old.ensures.1) at c.recount-left.ensures));
  };
  depth_value = refl;
}
