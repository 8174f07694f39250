-- `lend` meets its contract: each stage leads to the next (`Making`).
-- Assumes nothing.
use mathlib.Core.Path.{◌∙◌}
use native.Mathlib.Omega.{arith}
use Rattle.elements.proofs.Making.{few_cells}
use Rattle.taking.proofs.Texts.{null_there, words_depth}
use Rattle.lending.proofs.Making.{stack_room, one_item, free_still, named_rep, room_there, named_there, bound_there, lent_rep}
use Rattle.lending.proofs.lend.Goals as goal

pub add-named-requires : goal.add-named-requires
add-named-requires c = let G = c.requires in
    (G.short, G.slot, G.rep.rooms.dict_few)

pub push_words-pushed-requires : goal.push_words-pushed-requires
push_words-pushed-requires c = let G = c.requires in
    (omega (arith, c.add-named.ensures.names_value.1, G.empty, G.scratch), G.rep.rooms.stack_few)

pub overflow_cast-contents : goal.overflow_cast-contents
overflow_cast-contents c = let G = c.requires in
    omega (arith, few_cells G.rep, G.cells)

pub new_string-made-requires : goal.new_string-made-requires
new_string-made-requires c = let G = c.requires in
    let W = c.push_words-pushed.ensures in
    let room = stack_room G _ c.add-named.ensures.names_value.1 in
    (omega (arith, words_depth W), omega (arith, free_still c.args.m c.args.cells.now c.add-named.ensures.names_value.3 W, G.cells), null_there room W (named_rep c.add-named.ensures.adds G.rep G.unknown))

pub bounds-stack-1 : goal.bounds-stack-1
bounds-stack-1 c = omega (arith, c.new_string-made.auto.stack, c.push_words-pushed.auto.stack, c.requires.scratch)

pub write_at-requires : goal.write_at-requires
write_at-requires c = let G = c.requires in
    let W = c.push_words-pushed.ensures in
    let room = stack_room G _ c.add-named.ensures.names_value.1 in
    let one = one_item G c.add-named.ensures.names_value.1 W _ c.new_string-made.ensures.depth_value in
    room_there c.args.contents.now c.add-named.ensures.adds room W c.new_string-made.ensures.moves_heap one G.rep G.unknown

pub bind_item-bound-requires : goal.bind_item-bound-requires
bind_item-bound-requires c = let G = c.requires in
    let W = c.push_words-pushed.ensures in
    let room = stack_room G _ c.add-named.ensures.names_value.1 in
    let one = one_item G c.add-named.ensures.names_value.1 W _ c.new_string-made.ensures.depth_value in
    (omega (arith, one), named_there c.args.contents.now c.add-named.ensures.adds room W c.new_string-made.ensures.moves_heap one G.rep G.unknown c.write_at.ensures)

pub drop-requires : goal.drop-requires
drop-requires c = let G = c.requires in
    let W = c.push_words-pushed.ensures in
    let room = stack_room G _ c.add-named.ensures.names_value.1 in
    let one = one_item G c.add-named.ensures.names_value.1 W _ c.new_string-made.ensures.depth_value in
    (omega (arith, one, c.bind_item-bound.ensures.depth_value), bound_there c.args.contents.now c.add-named.ensures.adds room W c.new_string-made.ensures.moves_heap one G.rep G.unknown c.write_at.ensures c.bind_item-bound.ensures.binds_item)

pub shape_of-stack : goal.shape_of-stack
shape_of-stack c = c.new_string-made.auto.stack ∙ c.push_words-pushed.auto.stack

pub shape_of-dict : goal.shape_of-dict
shape_of-dict c = c.bind_item-bound.auto.dict ∙ c.add-named.auto.dict

pub shape_of-cells : goal.shape_of-cells
shape_of-cells c = c.drop.auto.cells ∙ c.bind_item-bound.auto.cells ∙ c.write_at.auto.cells ∙ c.new_string-made.auto.cells

pub returns : goal.returns
returns c = let G = c.requires in
    let W = c.push_words-pushed.ensures in
    let room = stack_room G _ c.add-named.ensures.names_value.1 in
    let one = one_item G c.add-named.ensures.names_value.1 W _ c.new_string-made.ensures.depth_value in
    record {
      lends = λ e l μ R is. lent_rep c.args.contents.now c.add-named.ensures.adds room W c.new_string-made.ensures.moves_heap one R is c.write_at.ensures c.bind_item-bound.ensures.binds_item c.drop.ensures.moves_heap;
      empty = omega (arith, one, c.bind_item-bound.ensures.depth_value, c.drop.ensures.depth_value);
    }
