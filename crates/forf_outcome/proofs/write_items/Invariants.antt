-- `forf_outcome::write_items` meets its contract: each way to an answer by its law.
-- Assumes nothing.
use Rattle.forf_outcome.proofs.Lining.{Listed}
use Rattle.forf_outcome.proofs.write_items.Given as goal

abbrev pub invariant-loop-i : goal.invariant-loop-i
invariant-loop-i l = Listed l.script l.depth l.stack l.at l.i l.initial.out l.out l.next
