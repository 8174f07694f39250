-- `emit_doubled` meets its contract. The loop's invariant: the first i bytes are emitted, each quote twice. The measure is what is left of the place.
-- Assumes nothing.
use Rattle.ledger_writer.proofs.Places.{Doubling}
use Rattle.ledger_writer.proofs.emit_doubled.Given as goal

abbrev pub invariant-loop-b : goal.invariant-loop-b
invariant-loop-b l = Doubling l.live l.at l.place l.initial.text l.text l.next l.b-index
