-- `note` meets its contract: two words of no name change.
-- Assumes nothing.
use Rattle.handlers.proofs.Setting.{note_rep}
use lib.ListN.{length-set}
use native.Mathlib.Omega.{arith}
use Rattle.handlers.proofs.note.Goals as goal

pub bounds-dict-635 : goal.bounds-dict-635
bounds-dict-635 c = simp length-set (omega (arith, c.requires.0))

pub returns : goal.returns
returns c = record { moves = λ m s e k l μ x y R p q. note_rep R _ _ p q }
