-- `machine::Machine::drop_frame` meets its contract: the slot's place takes null, and no slot's word is stored.
-- Assumes nothing.
use Rattle.machine.proofs.Tops.{drop_placed, drop_rep}
use native.Mathlib.Omega.{arith}
use mathlib.Core.Path.{refl}
use Rattle.machine.proofs.Machine.drop_frame.Goals as goal

pub recount-left-requires : goal.recount-left-requires
recount-left-requires c = let R = c.requires.1.4 in rw (c.frame_value-old.ensures.0, c.frame_value-old.ensures.1) (drop_placed R _ (omega (arith, c.requires.0)))

pub returns : goal.returns
returns c = record { moves_frames = record { moves = λ s d l μ R. drop_rep R _ (omega (arith, c.requires.0)) (rw (c.frame_value-old.ensures.0, c.frame_value-old.ensures.1) at c.recount-left.ensures) }; depth_value = (refl, refl) }
