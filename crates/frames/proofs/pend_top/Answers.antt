-- `frames::pend_top` meets its contract: three words are stored above the slots in use; a pending value has no numbers.
-- Assumes nothing.
use Rattle.frames.proofs.Slots.{put_three}
use Rattle.frames.proofs.Entering.{enter_rep}
use lib.ListN.{length-set}
use native.Mathlib.Omega.{arith}
use mathlib.Core.Path.{refl}
use Prim.Native.Nat.{◌-◌}
use Rattle.frames.proofs.pend_top.Goals as goal

pub set_frame_value-requires : goal.set_frame_value-requires
set_frame_value-requires c = simp length-set c.requires.2

pub returns : goal.returns
returns c = record { enters = record { moves = λ sh d cs l μ R. rw (c.set_frame_value.ensures, c.item-value.ensures.0, c.item-value.ensures.1) (enter_rep R (c.args.m.depth - 1) (omega (arith, c.requires.0)) sh c.requires.2 (put_three _ _ c.requires.2 _ _ _)) }; depth_value = (refl, refl) }
