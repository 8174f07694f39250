-- `frames::enter_loop` meets its contract: six words are stored above the slots in use, which no other place reads.
-- Assumes nothing.
use Rattle.frames.proofs.Slots.{put_six}
use Rattle.frames.proofs.Entering.{enter_rep}
use lib.ListN.{length-set}
use native.Mathlib.Omega.{arith}
use mathlib.Core.Path.{refl}
use Prim.Native.Nat.{◌-◌}
use Rattle.frames.proofs.enter_loop.Goals as goal

pub set_frame_value-requires : goal.set_frame_value-requires
set_frame_value-requires c = simp length-set c.requires.2

pub returns : goal.returns
returns c = record { enters = record { moves = λ sh d cs l μ R. rw (c.set_frame_value.ensures, c.item-value.ensures.0, c.item-value.ensures.1) (enter_rep R (c.args.m.depth - 1) (omega (arith, c.requires.0)) sh c.requires.2 (put_six _ _ c.requires.2 _ _ _ _ _ _)) }; depth_value = (refl, refl) }
