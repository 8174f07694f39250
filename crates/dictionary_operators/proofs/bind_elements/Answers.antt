-- `bind_elements` meets its contract: the loop keeps `Bindings`, that the elements before q are bound and the others as they were.
-- Assumes nothing.
use native.Mathlib.Omega.{arith}
use Prim.Native.Nat.{◌-◌}
use Rattle.dictionary_operators.proofs.Loops.{proc_array, begin, element_left, again, finish}
use Rattle.dictionary_operators.proofs.bind_elements.Goals as goal

pub size_of-n-requires : goal.size_of-n-requires
size_of-n-requires c = (c.requires.0, proc_array c.requires.1)

pub loop-q-init : goal.loop-q-init
loop-q-init c = begin (c.args.m.depth - 1) (omega (arith, c.requires.0)) c.size_of-n.ensures

pub bind_element-r-requires : goal.bind_element-r-requires
bind_element-r-requires c = (omega (arith, c.requires.0, c.loop-q.invariant.deep), element_left (c.args.m.depth - 1) (omega (arith, c.requires.0)) c.size_of-n.ensures c.loop-q.invariant c.loop-q-test.true c.requires.1)

pub loop-q-preserved : goal.loop-q-preserved
loop-q-preserved c = again (c.args.m.depth - 1) (omega (arith, c.requires.0)) c.size_of-n.ensures c.loop-q.invariant c.loop-q-test.true c.bind_element-r.ensures.binds_element c.bind_element-r.ensures.depth_value c.bind_element-r.auto.cells

pub shape_of-cells : goal.shape_of-cells
shape_of-cells c = c.loop-q.invariant.long

pub returns : goal.returns
returns c = finish (c.args.m.depth - 1) (omega (arith, c.requires.0)) c.size_of-n.ensures c.loop-q.invariant c.loop-q-test.false
