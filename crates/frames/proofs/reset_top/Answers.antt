-- `frames::reset_top` meets its contract: three words of the topmost slot are stored, none of them the value's.
-- Assumes nothing.
use Rattle.frames.proofs.Slots.{put_numbers}
use Rattle.frames.proofs.Resetting.{reset_rep}
use mathlib.Core.Path.{refl}
use lib.ListN.{length-set}
use native.Mathlib.Omega.{arith}
use Rattle.frames.proofs.reset_top.Goals as goal

pub bounds-exec-k-2 : goal.bounds-exec-k-2
bounds-exec-k-2 c = simp length-set (omega (arith, c.requires.1))

pub bounds-exec-k-3 : goal.bounds-exec-k-3
bounds-exec-k-3 c = simp length-set (omega (arith, c.requires.1))

pub returns : goal.returns
returns c = record { resets = record { moves = λ s d cs l μ R f keeps words. reset_rep R _ (omega (arith, c.requires.0)) f keeps (put_numbers _ _ (omega (arith, c.requires.1)) _ _ _) words }; words = refl }
