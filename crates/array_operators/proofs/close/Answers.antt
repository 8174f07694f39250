-- `close` meets its contract: the mark is found as the definition finds it, and the new array that takes its place gets the items above it.
-- Assumes nothing.
use native.Mathlib.Omega.{arith}
use Rattle.machine.proofs.Outcomes.{elsewhere, then_heap}
use Rattle.array_operators.proofs.Marks.{close_unmatched, close_full, plain_mark, made_there, close_done}
use Rattle.array_operators.proofs.close.Goals as goal

pub returns-in_default : goal.returns-in_default
returns-in_default c = close_unmatched c.in_default.ensures.mark_above

pub returns-then-free_cells-size : goal.returns-then-free_cells-size
returns-then-free_cells-size c = close_full c.in-Some.ensures.mark_above c.in-Some.ensures.inside (omega (arith, c.if-free_cells-size.true, c.free_cells.ensures))

pub new_array-made-requires : goal.new_array-made-requires
new_array-made-requires c = (c.in-Some.ensures.inside, omega (arith, c.if-free_cells-size.false, c.free_cells.ensures), plain_mark c.in-Some.ensures.mark_above c.in-Some.ensures.inside c.requires)

pub store_items-stored-requires : goal.store_items-stored-requires
store_items-stored-requires c = (omega (arith, c.in-Some.ensures.inside, c.new_array-made.ensures.depth_value), omega (arith, c.in-Some.ensures.inside, c.new_array-made.ensures.depth_value), omega arith, made_there c.in-Some.ensures.inside c.new_array-made.ensures.moves_heap c.requires)

pub drop_items-requires : goal.drop_items-requires
drop_items-requires c = (omega (arith, c.in-Some.ensures.inside, c.new_array-made.ensures.depth_value, c.store_items-stored.ensures.depth_value), elsewhere (then_heap c.new_array-made.ensures.moves_heap c.store_items-stored.ensures.moves_heap) c.requires)

pub returns : goal.returns
returns c = close_done c.in-Some.ensures.mark_above c.in-Some.ensures.inside (omega (arith, c.if-free_cells-size.false, c.free_cells.ensures)) c.new_array-made.ensures.moves_heap c.store_items-stored.ensures.moves_heap c.drop_items.ensures.moves_heap c.new_array-made.auto.stack
