-- `above_mark` meets its contract: the loop keeps `Searched`, that no item so far is a mark.
-- Assumes nothing.
use Rattle.array_operators.proofs.Marks.{begin, ends, stops, again}
use Rattle.array_operators.proofs.above_mark.Goals as goal

pub loop-n-init : goal.loop-n-init
loop-n-init c = begin _ _

pub tag_of-requires : goal.tag_of-requires
tag_of-requires c = (c.loop-n-test.true, c.requires)

pub returns-then-tag_of-eq-TAG_MARK-clause-mark_above : goal.returns-then-tag_of-eq-TAG_MARK-clause-mark_above
returns-then-tag_of-eq-TAG_MARK-clause-mark_above c = stops c.loop-n.invariant c.loop-n-test.true c.tag_of.ensures c.if-tag_of-eq-TAG_MARK.true

pub loop-n-preserved : goal.loop-n-preserved
loop-n-preserved c = again c.loop-n.invariant c.loop-n-test.true c.tag_of.ensures c.if-tag_of-eq-TAG_MARK.false

pub returns-clause-mark_above : goal.returns-clause-mark_above
returns-clause-mark_above c = ends c.loop-n.invariant c.loop-n-test.false
