-- `fill` meets its contract: line by line, the records stand in the book (Filling).
-- Assumes nothing.
use Rattle.ledger_reader.proofs.Filling.{filling_starts, filling_none, filling_flaw, filling_next, filling_ends}
use Rattle.ledger_reader.proofs.fill.Goals as goal

pub loop-i-init : goal.loop-i-init
loop-i-init c = filling_starts _ _ _ _ c.requires

pub returns-in_default : goal.returns-in_default
returns-in_default c = absurd (filling_none c.loop-i.invariant c.loop-i-test.true c.in_default.ensures)

pub returns-in_default-entry : goal.returns-in_default-entry
returns-in_default-entry c = absurd (filling_flaw c.loop-i.invariant c.in-Some.ensures c.in_default-entry.is)

pub loop-i-preserved : goal.loop-i-preserved
loop-i-preserved c = filling_next c.loop-i.invariant c.in-Some.ensures c.in-Ok.is c.loop-i-test.true c.replace.ensures

pub returns : goal.returns
returns c = filling_ends c.loop-i.invariant c.loop-i-test.false
