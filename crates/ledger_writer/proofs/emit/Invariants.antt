-- The text of the first i records is emitted (Turns).
use Rattle.ledger_writer.proofs.Turns.{Emitting}
use Rattle.ledger_writer.proofs.emit.Given as goal

abbrev pub invariant-loop-i : goal.invariant-loop-i
invariant-loop-i l = Emitting l.book l.count l.live l.fn.text l.i l.at l.text
