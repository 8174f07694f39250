-- `push_words` meets its contract: it stores the two words, and the small state has one item more.
-- Assumes nothing.
use mathlib.Core.Path.{refl}
use native.Mathlib.Omega.{arith}
use lib.ListN.{length-set}
use Rattle.taking.proofs.push_words.Goals as goal

pub bounds-stack-n-2 : goal.bounds-stack-n-2
bounds-stack-n-2 c = simp length-set (omega (arith, c.requires.0))

pub returns : goal.returns
returns c = record { state = refl; words = refl }
