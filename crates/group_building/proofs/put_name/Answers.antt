-- `put_name` meets its contract: the name has the slot that is found (`puts_name`).
-- Assumes nothing.
use Rattle.dictionary.proofs.Lookups.{find_some}
use Rattle.group_building.proofs.Leaves.{puts_name, name_low, name_there, leaf_cell}
use Rattle.group_building.proofs.put_name.Goals as goal

pub find-requires : goal.find-requires
find-requires c = (c.requires.11, c.requires.9.rep.rooms.dict_fits, c.requires.9.rep.rooms.dict_few)

pub unwrap-slot-requires : goal.unwrap-slot-requires
unwrap-slot-requires c = name_there _ c.find.ensures.finds c.requires.9

pub set_plain-requires : goal.set_plain-requires
set_plain-requires c = (name_low c.requires.8 c.requires.10, leaf_cell c.requires.9)

pub shape_of-cells : goal.shape_of-cells
shape_of-cells c = c.set_plain.auto.cells

pub returns : goal.returns
returns c = puts_name (find_some c.find.ensures.finds c.find.ensures.upper_bound c.unwrap-slot.ensures).0 c.set_plain.ensures c.set_plain.auto.cells
