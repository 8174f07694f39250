-- `frames::pend` meets its contract: the place above the topmost slot takes the value.
-- Assumes nothing.
use Rattle.frames.proofs.Slots.{put_three}
use Rattle.frames.proofs.Pending.{pend_placed, pend_rep}
use lib.ListN.{length-set}
use mathlib.Core.Path.{refl}
use Rattle.frames.proofs.pend.Goals as goal

pub recount-counted-requires : goal.recount-counted-requires
recount-counted-requires c = pend_placed c.requires.1.4 c.requires.1.6 c.requires.0

pub set_frame_value-requires : goal.set_frame_value-requires
set_frame_value-requires c = simp length-set c.requires.0

pub returns : goal.returns
returns c = record {
  pends = record { moves = λ s d l μ R v new. rw c.set_frame_value.ensures (pend_rep R new c.requires.0 c.recount-counted.ensures (put_three _ _ c.requires.0 _ _ _)) };
  depth_value = (refl, refl);
}
