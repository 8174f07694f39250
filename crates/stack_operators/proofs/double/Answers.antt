-- `stack_operators::double` meets its contract: the loop keeps `Doubling`, the copies made so far.
-- Assumes nothing.
use Rattle.stack_operators.proofs.Doubling.{begin, again, finish}
use Rattle.machine.proofs.Outcomes.{elsewhere}
use native.Mathlib.Omega.{arith}
use Rattle.stack_operators.proofs.double.Goals as goal

pub loop-init : goal.loop-init
loop-init c = begin _ _ _ _

pub push_copy-r-requires : goal.push_copy-r-requires
push_copy-r-requires c =
    let v = c.loop.invariant in
    let p = c.requires in
    (omega (arith, v.deep, p.0, c.loop-test.true), omega (arith, v.deep, c.loop.auto.stack, p.1, c.loop-test.true), elsewhere v.moves p.2)

pub loop-preserved : goal.loop-preserved
loop-preserved c = again c.loop.invariant c.requires.0 c.loop-test.true c.push_copy-r.ensures.moves_heap c.push_copy-r.ensures.depth_value

pub returns : goal.returns
returns c = finish c.loop.invariant c.loop-test.false
