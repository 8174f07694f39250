-- `stack_operators::reverse` meets its contract: the loop keeps `Turning`, by which what is left to reverse gives what was asked.
-- Assumes nothing.
use Rattle.stack_operators.proofs.Reversing.{begin, again, finish}
use native.Mathlib.Omega.{arith}
use Rattle.stack_operators.proofs.reverse.Goals as goal

pub loop-k-init : goal.loop-k-init
loop-k-init c = begin _ _ _ _

pub swap-r-requires : goal.swap-r-requires
swap-r-requires c =
    let v = c.loop-k.invariant in
    let p = c.requires in
    (omega (arith, v.deep, p.2, c.loop-k-test.true), omega (arith, v.deep, p.2, c.loop-k-test.true), omega (arith, v.deep, c.loop-k.auto.stack, p.0))

pub loop-k-preserved : goal.loop-k-preserved
loop-k-preserved c = again c.loop-k.invariant c.requires.1 c.requires.2 c.loop-k-test.true c.swap-r.ensures.moves_stack c.swap-r.ensures.depth_value

pub returns : goal.returns
returns c = record { moves_stack = finish c.loop-k.invariant c.requires.1 c.loop-k-test.false c.loop-k.auto.k-end; depth_value = c.loop-k.invariant.deep }
