-- `control_operators::drop_to` meets its contract: each turn of the loop takes the topmost slot away.
-- Assumes nothing.
use Rattle.control_operators.proofs.Leaving.{begin, again, finish}
use Rattle.std.proofs.Common.{rules}
use native.Mathlib.Omega.{arith}
use Rattle.control_operators.proofs.drop_to.Goals as goal

pub loop-init : goal.loop-init
loop-init c = begin _ _ _ _

pub drop_frame-r-requires : goal.drop_frame-r-requires
drop_frame-r-requires c =
    let W = c.requires.1 in
    (omega (arith, c.loop.invariant.left, c.loop-test.true, c.requires.0), (W.0, W.1, W.2, _, c.loop.invariant.moves.moves W.0 W.1 W.2 W.3 W.4))

pub loop-preserved : goal.loop-preserved
loop-preserved c = again c.loop.invariant (search rules) c.loop-test.true c.drop_frame-r.ensures.moves_frames c.drop_frame-r.ensures.depth_value.1

pub returns : goal.returns
returns c = finish c.loop.invariant (search rules) c.loop-test.false (search rules)
