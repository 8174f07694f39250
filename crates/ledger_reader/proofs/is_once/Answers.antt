-- `is_once` meets its contract: the numbers that are kept are compared with all that follow (Resting).
-- Assumes nothing.
use Rattle.std.proofs.Common.{arith}
use Rattle.ledger_reader.proofs.Resting.{alone_starts, alone_all, not_flawed, alone_not, alone_met, alone_next, alone_again, alone_less}
use Rattle.ledger_reader.proofs.is_once.Goals as goal
use Rattle.ledger_reader.proofs.is_once.Goals.{then-n-eq-RECORDS_MOST+else-meets, else-n-eq-RECORDS_MOST}

pub loop-line-init : goal.loop-line-init
loop-line-init c = alone_starts c.requires

pub returns-in_default-entry : goal.returns-in_default-entry
returns-in_default-entry c = absurd (not_flawed c.in-Some.ensures c.loop-line.invariant.left c.in_default-entry.is)

pub returns-then-is_among : goal.returns-then-is_among
returns-then-is_among c = alone_not c.loop-line.invariant c.in-Some.ensures c.in-Ok.is c.is_among.ensures c.if-is_among.true

pub returns-then-meets : goal.returns-then-meets
returns-then-meets c = alone_met c.loop-line.invariant c.in-Some.ensures c.in-Ok.is (omega (arith, c.if-n-eq-RECORDS_MOST.true)) c.meets.ensures c.if-meets.true

pub loop-line-smaller : goal.loop-line-smaller
loop-line-smaller c = alone_less c.loop-line.invariant c.in-Some.ensures c.in-Ok.is

pub loop-line-preserved : goal.loop-line-preserved
loop-line-preserved c =
    elim c.if-n-eq-RECORDS_MOST.branch [
      | then-n-eq-RECORDS_MOST+else-meets w ↦ rw w.n-is (alone_again c.loop-line.invariant c.in-Some.ensures c.in-Ok.is (omega (arith, w.if-n-eq-RECORDS_MOST.true)) w.meets.ensures w.if-meets.false)
      | else-n-eq-RECORDS_MOST w ↦ rw w.n-is (alone_next c.loop-line.invariant c.in-Some.ensures c.in-Ok.is c.is_among.ensures c.if-is_among.false (omega (arith, c.loop-line.invariant.few, w.if-n-eq-RECORDS_MOST.false)))
    ]

pub returns : goal.returns
returns c = alone_all c.loop-line.invariant c.in_default.ensures
