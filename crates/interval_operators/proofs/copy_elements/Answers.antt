-- `copy_elements` meets its contract: the loop keeps `Copied`, that the first q elements are copied.
-- Assumes nothing.
use native.Mathlib.Omega.{arith}
use Rattle.interval_operators.proofs.Moving.{started, small_target, small_source, begin, source_element, target_element, again, finish}
use Rattle.interval_operators.proofs.copy_elements.Goals as goal

pub loop-q-init : goal.loop-q-init
loop-q-init c = begin (started c.requires.places c.requires.copies)

pub overflow_add-start : goal.overflow_add-start
overflow_add-start c = omega (arith, c.loop-q-test.true, small_source (started c.requires.places c.requires.copies))

pub copy_element-r-requires : goal.copy_element-r-requires
copy_element-r-requires c = let G = started c.requires.places c.requires.copies in
    let D = c.loop-q.invariant in
    (omega (arith, c.requires.places.1, D.deep), omega (arith, c.requires.places.2, D.deep), source_element G D c.loop-q-test.true)

pub overflow_add-at : goal.overflow_add-at
overflow_add-at c = omega (arith, c.loop-q-test.true, small_target (started c.requires.places c.requires.copies))

pub put_element-r-requires : goal.put_element-r-requires
put_element-r-requires c = let G = started c.requires.places c.requires.copies in
    let D = c.loop-q.invariant in
    (omega (arith, c.requires.places.0, D.deep, c.copy_element-r.ensures.depth_value), omega (arith, c.requires.places.2, D.deep, c.copy_element-r.ensures.depth_value), target_element G D c.loop-q-test.true c.copy_element-r.ensures.moves_heap)

pub loop-q-preserved : goal.loop-q-preserved
loop-q-preserved c = again (started c.requires.places c.requires.copies) c.loop-q.invariant c.loop-q-test.true c.copy_element-r.ensures.moves_heap c.put_element-r.ensures.moves_heap c.copy_element-r.ensures.depth_value c.put_element-r.ensures.depth_value c.copy_element-r.auto.stack c.copy_element-r.auto.cells c.put_element-r.auto.cells

pub returns : goal.returns
returns c = record { moves_heap = finish c.loop-q.invariant c.loop-q.auto.q-end c.loop-q-test.false; depth_value = c.loop-q.invariant.deep }
