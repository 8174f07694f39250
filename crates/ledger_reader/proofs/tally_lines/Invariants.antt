-- `tally_lines` meets its contract. The loop's invariant: the rank so far and that of what is left give the rank of the whole. The measure is what is left of the text.
-- Assumes nothing.
use Prim.Native.Nat.{◌-◌}
use lib.ListN.{length}
use Rattle.ledger_reader.specs.Lines.{rank_told}
use Rattle.ledger_reader.proofs.Tallying.{Tallying}
use Rattle.ledger_reader.proofs.tally_lines.Given as goal

abbrev pub invariant-loop-line : goal.invariant-loop-line
invariant-loop-line l = Tallying l.text l.start l.at (rank_told l.worst) l.count

abbrev pub decreases-loop-line : goal.decreases-loop-line
decreases-loop-line l = length l.text - l.at
