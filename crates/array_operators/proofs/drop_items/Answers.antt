-- `drop_items` meets its contract: the loop keeps `Dropped`, the items gone so far.
-- Assumes nothing.
use native.Mathlib.Omega.{arith}
use Rattle.machine.proofs.Outcomes.{elsewhere}
use Rattle.array_operators.proofs.Dropping.{begin, again, finish}
use Rattle.array_operators.proofs.drop_items.Goals as goal

pub loop-init : goal.loop-init
loop-init c = begin _ _ _

pub drop-r-requires : goal.drop-r-requires
drop-r-requires c = (omega (arith, c.loop.invariant.deep, c.loop-test.true, c.requires.0), elsewhere c.loop.invariant.moves c.requires.1)

pub loop-preserved : goal.loop-preserved
loop-preserved c = again c.loop.invariant (omega (arith, c.loop-test.true, c.requires.0)) c.drop-r.ensures.moves_heap c.drop-r.ensures.depth_value c.drop-r.auto.cells

pub returns : goal.returns
returns c = record { moves_heap = finish c.loop.invariant c.loop.auto.counter-end c.loop-test.false; depth_value = omega (arith, c.loop.invariant.deep, c.loop.auto.counter-end, c.loop-test.false) }
