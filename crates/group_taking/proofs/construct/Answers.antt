-- `construct` meets its contract: null gives way to a new array, which gets the mark, becomes executable and is filled along its chain (`constructed`).
-- Assumes nothing.
use lib.ListN.{length-set}
use mathlib.Core.Path.{◌∙◌}
use native.Mathlib.Omega.{arith}
use Rattle.taking.proofs.Texts.{null_there, words_free, words_depth}
use Rattle.group_taking.proofs.Constructing.{array_there, seals_made, first_there, ready_group, constructed}
use Rattle.group_taking.proofs.construct.Goals as goal

pub push_words-deeper-requires : goal.push_words-deeper-requires
push_words-deeper-requires c = let pre = c.requires in
    (pre.3.5.stack, pre.3.5.rep.rooms.stack_few)

pub overflow_cast-size : goal.overflow_cast-size
overflow_cast-size c = let pre = c.requires in
    omega (arith, pre.2)

pub new_array-made-requires : goal.new_array-made-requires
new_array-made-requires c = let args = c.args in
    let pre = c.requires in
    (omega (arith, words_depth c.push_words-deeper.ensures), omega (arith, words_free args.cells.now c.push_words-deeper.ensures, pre.3.5.cells, pre.3.6), null_there pre.3.5.stack c.push_words-deeper.ensures (_, _, _, _, pre.3.5.rep))

pub seal-requires : goal.seal-requires
seal-requires c = let pre = c.requires in
    (omega (arith, words_depth c.push_words-deeper.ensures, c.new_array-made.ensures.depth_value), array_there _ pre.3.5.stack c.push_words-deeper.ensures c.new_array-made.ensures.moves_heap pre.3.5.rep)

pub overflow_mul-stack : goal.overflow_mul-stack
overflow_mul-stack c = let pre = c.requires in
    omega (arith, pre.3.5.stack, pre.3.5.rep.rooms.stack_few)

pub offset_bounds-stack-n : goal.offset_bounds-stack-n
offset_bounds-stack-n c = let pre = c.requires in
    omega (arith, pre.3.5.stack, pre.3.5.rep.rooms.stack_few)

pub bounds-stack-n : goal.bounds-stack-n
bounds-stack-n c = let pre = c.requires in
    omega (arith, pre.3.5.stack, c.new_array-made.auto.stack, c.push_words-deeper.auto.stack)

pub overflow_mul-n : goal.overflow_mul-n
overflow_mul-n c = let pre = c.requires in
    omega (arith, pre.3.5.stack, pre.3.5.rep.rooms.stack_few)

pub overflow_add-n : goal.overflow_add-n
overflow_add-n c = let pre = c.requires in
    omega (arith, pre.3.5.stack, pre.3.5.rep.rooms.stack_few)

pub offset_bounds-stack-n-2 : goal.offset_bounds-stack-n-2
offset_bounds-stack-n-2 c = let pre = c.requires in
    omega (arith, pre.3.5.stack, pre.3.5.rep.rooms.stack_few)

pub bounds-stack-n-2 : goal.bounds-stack-n-2
bounds-stack-n-2 c = let pre = c.requires in
    simp length-set (omega (arith, pre.3.5.stack, c.new_array-made.auto.stack, c.push_words-deeper.auto.stack))

pub first_cell-first-requires : goal.first_cell-first-requires
first_cell-first-requires c = let pre = c.requires in
    first_there pre.3.5.stack c.push_words-deeper.ensures _ (seals_made _ c.new_array-made.ensures.moves_heap c.seal.ensures) c.new_array-made.ensures.depth_value pre.3.5 pre.3.6

pub build-requires : goal.build-requires
build-requires c = let pre = c.requires in
    ready_group pre.3.5.stack c.push_words-deeper.ensures _ (seals_made _ c.new_array-made.ensures.moves_heap c.seal.ensures) c.new_array-made.ensures.depth_value pre.3.5 pre.3.6 pre.0 pre.1 (omega (arith, c.new_array-made.ensures.room, c.seal.auto.cells)) c.first_cell-first.ensures

pub shape_of-stack : goal.shape_of-stack
shape_of-stack c = simp length-set (c.new_array-made.auto.stack ∙ c.push_words-deeper.auto.stack)

pub shape_of-cells : goal.shape_of-cells
shape_of-cells c = c.build.auto.cells ∙ c.seal.auto.cells ∙ c.new_array-made.auto.cells

pub returns : goal.returns
returns c = let pre = c.requires in
    constructed pre.3.5.stack c.push_words-deeper.ensures _ (seals_made _ c.new_array-made.ensures.moves_heap c.seal.ensures) c.new_array-made.ensures.depth_value (omega (arith, c.new_array-made.ensures.room, c.seal.auto.cells)) pre.0 pre.1 pre.3.5 pre.3.6 c.first_cell-first.ensures c.build.ensures
