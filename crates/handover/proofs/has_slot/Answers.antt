-- `has_slot` meets its contract, by the kind of the topmost slot.
-- Assumes nothing.
use Rattle.handover.proofs.Passing.{slot_first, slot_pending, slot_other}
use Rattle.handover.proofs.has_slot.Goals as goal

pub returns-then-m-eq0 : goal.returns-then-m-eq0
returns-then-m-eq0 c = slot_first c.if-m-eq0.true

pub returns-then-exec-k-eq-PENDING : goal.returns-then-exec-k-eq-PENDING
returns-then-exec-k-eq-PENDING c = slot_pending c.if-m-eq0.false c.if-exec-k-eq-PENDING.true

pub returns : goal.returns
returns c = slot_other c.if-m-eq0.false c.if-exec-k-eq-PENDING.false
