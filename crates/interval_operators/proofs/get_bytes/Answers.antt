-- `get_bytes` meets its contract: the maximum and the free cells decide between rangecheck, VMerror and what the primitives do in turn.
-- Assumes nothing.
use native.Mathlib.Omega.{arith}
use mathlib.Core.Path.{◌∙◌}
use Rattle.machine.proofs.Outcomes.{elsewhere}
use Rattle.interval_operators.proofs.Getting.{get_bytes_outside, get_bytes_full, get_bytes_done}
use Rattle.interval_operators.proofs.Fresh.{plain_count, copies_new_string}
use Rattle.elements.proofs.Tags.{string_there}
use Rattle.interval_operators.proofs.get_bytes.Goals as goal

pub maximum-requires : goal.maximum-requires
maximum-requires c = (omega (arith, c.requires.0), string_there c.requires.3 c.requires.5)

pub returns-then-maximum-start : goal.returns-then-maximum-start
returns-then-maximum-start c = get_bytes_outside c.requires.0 c.requires.1 c.requires.2 c.requires.4 c.requires.3 c.maximum.ensures c.if-maximum-start.true

pub returns-then-free_cells-n : goal.returns-then-free_cells-n
returns-then-free_cells-n c = get_bytes_full c.requires.0 c.requires.1 c.requires.2 c.requires.4 c.requires.3 c.maximum.ensures c.if-maximum-start.false c.free_cells.ensures c.if-free_cells-n.true

pub new_string-made-requires : goal.new_string-made-requires
new_string-made-requires c = (omega (arith, c.requires.0), omega (arith, c.if-free_cells-n.false, c.free_cells.ensures), plain_count c.requires.4 c.requires.5)

pub copy_bytes-requires : goal.copy_bytes-requires
copy_bytes-requires c = (omega (arith, c.requires.0, c.new_string-made.ensures.depth_value), omega (arith, c.requires.0, c.new_string-made.ensures.depth_value), copies_new_string c.requires.0 c.requires.4 c.if-maximum-start.false c.requires.5 c.requires.3 c.maximum.ensures c.new_string-made.ensures.moves_heap)

pub leave_result-requires : goal.leave_result-requires
leave_result-requires c = (omega (arith, c.requires.0, c.new_string-made.ensures.depth_value), elsewhere c.copy_bytes.ensures (elsewhere c.new_string-made.ensures.moves_heap c.requires.5))

pub shape_of-stack : goal.shape_of-stack
shape_of-stack c = c.leave_result.auto.stack ∙ c.new_string-made.auto.stack

pub shape_of-cells : goal.shape_of-cells
shape_of-cells c = c.leave_result.auto.cells ∙ c.copy_bytes.auto.cells ∙ c.new_string-made.auto.cells

pub returns : goal.returns
returns c = get_bytes_done c.requires.0 c.requires.1 c.requires.2 c.requires.4 c.requires.3 c.maximum.ensures c.if-maximum-start.false c.free_cells.ensures c.if-free_cells-n.false c.new_string-made.ensures.moves_heap c.copy_bytes.ensures c.leave_result.ensures (c.leave_result.auto.stack ∙ c.new_string-made.auto.stack)
