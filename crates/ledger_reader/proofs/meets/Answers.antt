-- `meets` meets its contract: record by record, one of these numbers is among those that are left (Resting).
-- Assumes nothing.
use Rattle.ledger_reader.proofs.Resting.{meeting_starts, meeting_none, not_flawed, meeting_found, meeting_next, meeting_less}
use Rattle.ledger_reader.proofs.meets.Goals as goal

pub loop-line-init : goal.loop-line-init
loop-line-init c = meeting_starts _ c.requires

pub returns-in_default-entry : goal.returns-in_default-entry
returns-in_default-entry c = absurd (not_flawed c.in-Some.ensures c.loop-line.invariant.left c.in_default-entry.is)

pub returns-then-is_among : goal.returns-then-is_among
returns-then-is_among c = meeting_found c.loop-line.invariant c.in-Some.ensures c.in-Ok.is c.is_among.ensures c.if-is_among.true

pub loop-line-smaller : goal.loop-line-smaller
loop-line-smaller c = meeting_less c.loop-line.invariant c.in-Some.ensures c.in-Ok.is

pub loop-line-preserved : goal.loop-line-preserved
loop-line-preserved c = meeting_next c.loop-line.invariant c.in-Some.ensures c.in-Ok.is c.is_among.ensures c.if-is_among.false

pub returns : goal.returns
returns c = meeting_none c.loop-line.invariant c.in_default.ensures
