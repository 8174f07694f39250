-- `frames::pend_body` meets its contract: the topmost slot's words are its value, a copy of which becomes pending.
-- Assumes nothing.
use Rattle.frames.specs.Moves.{body_pended}
use Rattle.frames.proofs.Pending.{body_is}
use native.Mathlib.Omega.{arith}
use Rattle.frames.proofs.pend_body.Goals as goal

pub pend-requires : goal.pend-requires
pend-requires c = let R = c.requires.2.4 in
    (c.requires.1, (_, _, _, _, R, _, body_is R _ (omega (arith, c.requires.0)) c.frame_value-value.ensures.0 c.frame_value-value.ensures.1))

pub returns : goal.returns
unfolding body_pended
returns c = record {
  moves_frames = record { moves = λ s d l μ R. c.pend.ensures.pends.moves s d l μ R _ (body_is R _ (omega (arith, c.requires.0)) c.frame_value-value.ensures.0 c.frame_value-value.ensures.1) };
  depth_value = c.pend.ensures.depth_value;
}
