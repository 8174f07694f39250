-- `control_operators::find_loop` meets its contract: the loop keeps that no slot that it has passed is a loop's.
-- Assumes nothing.
use Rattle.control_operators.proofs.Leaving.{passed_none, passed_one, found, not_found}
use Rattle.control_operators.proofs.find_loop.Goals as goal

pub loop-k-init : goal.loop-k-init
loop-k-init c = passed_none

pub returns-then-exec-k-ge-LOOP-clause-finds : goal.returns-then-exec-k-ge-LOOP-clause-finds
returns-then-exec-k-ge-LOOP-clause-finds c = found c.loop-k.invariant c.loop-k-test.true c.loop-k.auto.k c.if-exec-k-ge-LOOP.true

pub loop-k-preserved : goal.loop-k-preserved
loop-k-preserved c = passed_one c.loop-k.invariant c.loop-k-test.true c.loop-k.auto.k c.if-exec-k-ge-LOOP.false

pub returns-clause-finds : goal.returns-clause-finds
returns-clause-finds c = not_found c.loop-k.invariant c.loop-k-test.false
