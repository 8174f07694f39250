-- `operators::frequent` meets its contract: each branch by the family that it calls.
-- Assumes nothing.
use Rattle.operators.proofs.Named.{dictionary_all, frames_all}
use Rattle.operators.proofs.frequent.Goals as goal

pub returns-then-k-lt27 : goal.returns-then-k-lt27
returns-then-k-lt27 c = record { all = λ l. dictionary_all _ c.lower.ensures _ l }

pub returns : goal.returns
returns c = record { all = λ l. frames_all _ c.upper.ensures _ l }
