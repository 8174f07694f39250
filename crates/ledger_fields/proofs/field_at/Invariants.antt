-- What is left of the field at i is what is left of the field at `at`, after what is kept of the bytes before i.
-- Assumes nothing.
use Rattle.ledger_fields.proofs.Going.{Going}
use Rattle.ledger_fields.proofs.field_at.Given as goal

abbrev pub invariant-loop-i : goal.invariant-loop-i
invariant-loop-i l = Going l.text l.at l.initial.here l.i l.seen l.here
