-- `get_elements` meets its contract: the size and the free cells decide between rangecheck, VMerror and what the primitives do in turn.
-- Assumes nothing.
use native.Mathlib.Omega.{arith}
use mathlib.Core.Logic.{inl}
use mathlib.Core.Path.{◌∙◌}
use Rattle.machine.proofs.Outcomes.{elsewhere, stack_heap}
use Rattle.interval_operators.proofs.Getting.{get_elements_outside, get_elements_full, get_elements_done}
use Rattle.interval_operators.proofs.Fresh.{plain_count, copies_new_array}
use Rattle.elements.proofs.Tags.{array_there}
use Rattle.interval_operators.proofs.get_elements.Goals as goal

pub size_of-requires : goal.size_of-requires
size_of-requires c = (omega (arith, c.requires.0), array_there (_, c.requires.3, c.requires.4) c.requires.6)

pub returns-then-size_of-start : goal.returns-then-size_of-start
returns-then-size_of-start c = get_elements_outside c.requires.0 c.requires.1 c.requires.2 c.requires.5 c.requires.3 c.requires.4 c.size_of.ensures c.if-size_of-start.true

pub returns-then-free_cells-n : goal.returns-then-free_cells-n
returns-then-free_cells-n c = get_elements_full c.requires.0 c.requires.1 c.requires.2 c.requires.5 c.requires.3 c.requires.4 c.size_of.ensures c.if-size_of-start.false c.free_cells.ensures c.if-free_cells-n.true

pub new_array-made-requires : goal.new_array-made-requires
new_array-made-requires c = (omega (arith, c.requires.0), omega (arith, c.if-free_cells-n.false, c.free_cells.ensures), plain_count c.requires.5 c.requires.6)

pub copy_elements-copied-requires : goal.copy_elements-copied-requires
copy_elements-copied-requires c = let deep = c.new_array-made.ensures.depth_value in record {
  places = (omega (arith, c.requires.0, deep), omega (arith, c.requires.0, deep), omega (arith, c.requires.0, deep), (λ q. omega (arith, q)), (λ q. omega (arith, q)));
  copies = (inl (omega arith), copies_new_array c.requires.0 c.requires.5 c.if-size_of-start.false c.requires.6 c.requires.3 c.requires.4 c.size_of.ensures c.new_array-made.ensures.moves_heap);
}

pub retag-tagged-requires : goal.retag-tagged-requires
retag-tagged-requires c = let W = elsewhere c.copy_elements-copied.ensures.moves_heap (elsewhere c.new_array-made.ensures.moves_heap c.requires.6) in
    (omega (arith, c.requires.0, c.new_array-made.ensures.depth_value, c.copy_elements-copied.ensures.depth_value), W.4.rooms.stack_fits)

pub leave_result-requires : goal.leave_result-requires
leave_result-requires c = let W = elsewhere c.copy_elements-copied.ensures.moves_heap (elsewhere c.new_array-made.ensures.moves_heap c.requires.6) in
    (omega (arith, c.requires.0, c.new_array-made.ensures.depth_value, c.copy_elements-copied.ensures.depth_value, c.retag-tagged.ensures.depth_value), elsewhere (stack_heap c.retag-tagged.ensures.moves_stack) W)

pub shape_of-stack : goal.shape_of-stack
shape_of-stack c = c.leave_result.auto.stack ∙ c.retag-tagged.auto.stack ∙ c.copy_elements-copied.auto.stack ∙ c.new_array-made.auto.stack

pub shape_of-cells : goal.shape_of-cells
shape_of-cells c = c.leave_result.auto.cells ∙ c.copy_elements-copied.auto.cells ∙ c.new_array-made.auto.cells

pub returns : goal.returns
returns c = get_elements_done c.requires.0 c.requires.1 c.requires.2 c.requires.5 c.requires.3 c.requires.4 c.size_of.ensures c.if-size_of-start.false
    c.free_cells.ensures c.if-free_cells-n.false c.new_array-made.ensures.moves_heap c.copy_elements-copied.ensures.moves_heap c.retag-tagged.ensures.moves_stack
    c.leave_result.ensures (c.leave_result.auto.stack ∙ c.retag-tagged.auto.stack ∙ c.copy_elements-copied.auto.stack ∙ c.new_array-made.auto.stack)
