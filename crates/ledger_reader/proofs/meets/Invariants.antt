-- `meets` meets its contract. The loop's invariant: a record of the text is met if one that is left is. The measure is what is left of the text.
-- Assumes nothing.
use Prim.Native.Nat.{◌-◌}
use lib.ListN.{length}
use Rattle.ledger_reader.proofs.Resting.{Meeting}
use Rattle.ledger_reader.proofs.meets.Given as goal

abbrev pub invariant-loop-line : goal.invariant-loop-line
invariant-loop-line l = Meeting l.text l.start l.numbers l.at

abbrev pub decreases-loop-line : goal.decreases-loop-line
decreases-loop-line l = length l.text - l.at
