-- `is_once` meets its contract. The loop's invariant: no number is twice in the text if none is among those that are left, and none of these is kept. The measure is what is left of the text.
-- Assumes nothing.
use Prim.Native.Nat.{◌-◌}
use lib.ListN.{length}
use Rattle.ledger_reader.proofs.Resting.{Alone}
use Rattle.ledger_reader.proofs.is_once.Given as goal

abbrev pub invariant-loop-line : goal.invariant-loop-line
invariant-loop-line l = Alone l.text l.start l.at l.kept l.n

abbrev pub decreases-loop-line : goal.decreases-loop-line
decreases-loop-line l = length l.text - l.at
