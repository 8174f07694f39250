-- `open_group` meets its contract: judging gives the size that the group is known to have, and the array is made with that size.
-- Assumes nothing.
use Rattle.group_building.proofs.Opening.{some_depth, never_bad, size_room, size_few, first_there, first_inside, some_nodes, opens_group}
use native.Mathlib.Omega.{arith}
use Rattle.group_building.proofs.open_group.Goals as goal

pub overflow_sub-depth : goal.overflow_sub-depth
overflow_sub-depth c = some_depth c.requires.2 c.requires.3.9

pub judge-requires : goal.judge-requires
judge-requires c = let pre = c.requires in
    (omega (arith, pre.2.past), pre.2.inside, omega (arith, pre.3.9.short))

pub unwrap-judged-requires : goal.unwrap-judged-requires
unwrap-judged-requires c = never_bad c.requires.2 c.requires.3.9 _ c.judge.ensures

pub overflow_cast-judged : goal.overflow_cast-judged
overflow_cast-judged c = omega (arith, size_few c.requires.2 c.requires.3.9 c.judge.ensures c.unwrap-judged.ensures)

pub set_array-placed-requires : goal.set_array-placed-requires
set_array-placed-requires c = (size_room c.requires.2 c.requires.3.9 c.judge.ensures c.unwrap-judged.ensures, first_inside c.requires.3.9 _ (some_nodes c.requires.2 c.requires.3.9), (_, (_, _, _, _, c.requires.3.9.rep)))

pub first_cell-first-requires : goal.first_cell-first-requires
first_cell-first-requires c = first_there c.requires.2 c.requires.3.9 c.judge.ensures c.unwrap-judged.ensures c.set_array-placed.ensures.sets_array

pub shape_of-cells : goal.shape_of-cells
shape_of-cells c = c.set_array-placed.auto.cells

pub returns : goal.returns
returns c = opens_group c.judge.ensures c.unwrap-judged.ensures c.set_array-placed.ensures.sets_array c.set_array-placed.ensures.same_but.0 c.set_array-placed.ensures.same_but.1 c.first_cell-first.ensures
