-- `store_items` meets its contract: the loop keeps `Stored`, the elements put so far.
-- Assumes nothing.
use native.Mathlib.Omega.{arith}
use Rattle.array_operators.proofs.Storing.{begin, next_element, again, finish}
use Rattle.array_operators.proofs.store_items.Goals as goal

pub loop-q-init : goal.loop-q-init
loop-q-init c = begin c.requires.0 c.requires.3

pub overflow_cast-q : goal.overflow_cast-q
overflow_cast-q c = omega (arith, c.loop-q-test.true, c.requires.1, c.requires.2, c.requires.3.4.rooms.stack_fits, c.requires.3.4.rooms.stack_few)

pub put_element-r-requires : goal.put_element-r-requires
put_element-r-requires c = (omega (arith, c.loop-q.invariant.deep, c.requires.0), omega (arith, c.loop-q.invariant.deep, c.loop-q-test.true, c.requires.1, c.requires.2), next_element c.requires.0 c.requires.3 c.requires.1 c.requires.2 c.loop-q.invariant c.loop-q-test.true)

pub loop-q-preserved : goal.loop-q-preserved
loop-q-preserved c = again c.requires.0 c.requires.3 c.requires.1 c.requires.2 c.loop-q.invariant c.loop-q-test.true c.put_element-r.ensures.moves_heap c.put_element-r.ensures.depth_value c.put_element-r.auto.cells

pub returns : goal.returns
returns c = record { moves_heap = finish c.loop-q.invariant c.loop-q-test.false; depth_value = c.loop-q.invariant.deep }
