-- `spread` meets its contract: the loop keeps `Spread`, the elements below the array so far.
-- Assumes nothing.
use native.Mathlib.Omega.{arith}
use mathlib.Core.Path.{◌∙◌}
use Rattle.array_operators.proofs.Spreading.{begin, next_element, again, finish}
use Rattle.array_operators.proofs.spread.Goals as goal

pub loop-q-init : goal.loop-q-init
loop-q-init c = begin c.requires.0 c.requires.2

pub push_scalar-r-requires : goal.push_scalar-r-requires
push_scalar-r-requires c = omega (arith, c.loop-q.invariant.deep, c.loop-q.invariant.long, c.loop-q-test.true, c.requires.1)

pub swap-r-requires : goal.swap-r-requires
swap-r-requires c = (omega (arith, c.push_scalar-r.ensures.depth_value), omega (arith, c.push_scalar-r.ensures.depth_value, c.loop-q.invariant.deep, c.requires.0), omega (arith, c.push_scalar-r.ensures.depth_value, c.push_scalar-r.auto.stack, c.loop-q.invariant.deep, c.loop-q.invariant.long, c.loop-q-test.true, c.requires.1))

pub overflow_cast-q : goal.overflow_cast-q
overflow_cast-q c = omega (arith, c.loop-q-test.true, c.requires.1, c.requires.2.4.rooms.stack_few)

pub copy_element-r-requires : goal.copy_element-r-requires
copy_element-r-requires c = (omega (arith, c.swap-r.ensures.depth_value, c.push_scalar-r.ensures.depth_value), omega (arith, c.swap-r.ensures.depth_value, c.push_scalar-r.ensures.depth_value, c.loop-q.invariant.deep, c.requires.0), next_element c.requires.0 c.requires.2 c.loop-q.invariant c.loop-q-test.true c.push_scalar-r.ensures.pushes c.swap-r.ensures.moves_stack)

pub loop-q-preserved : goal.loop-q-preserved
loop-q-preserved c = again c.requires.0 c.requires.2 c.loop-q.invariant c.loop-q-test.true c.push_scalar-r.ensures.pushes c.swap-r.ensures.moves_stack c.copy_element-r.ensures.moves_heap c.push_scalar-r.ensures.depth_value c.swap-r.ensures.depth_value c.copy_element-r.ensures.depth_value (c.copy_element-r.auto.stack ∙ c.swap-r.auto.stack ∙ c.push_scalar-r.auto.stack) c.copy_element-r.auto.cells

pub returns : goal.returns
returns c = finish c.loop-q.invariant c.loop-q-test.false
