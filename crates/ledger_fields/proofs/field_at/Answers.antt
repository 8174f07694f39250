-- `field_at` meets its contract: each act takes the field on, or ends it (Going).
-- Assumes nothing.
use Rattle.ledger_fields.proofs.Going.{going_starts, going_keep_plain, going_keep_quoted, going_open, going_shut, going_return, going_comma, going_line, going_wrong, going_ends}
use Rattle.ledger_fields.proofs.field_at.Goals as goal
use Rattle.ledger_fields.proofs.field_at.Goals.{in-KeepPlain, in-KeepQuoted, in-Open, in-Shut, in-Return}

pub loop-i-init : goal.loop-i-init
loop-i-init c = going_starts _ _ _ c.requires c.new-seen.ensures

pub loop-i-preserved : goal.loop-i-preserved
loop-i-preserved c =
    elim c.match-act_on.branch [
      | in-KeepPlain w ↦ rw (w.seen-is, w.here-is) (going_keep_plain c.loop-i.invariant c.loop-i-test.true c.act_on.ensures w.in-KeepPlain.is w.take.ensures)
      | in-KeepQuoted w ↦ rw (w.seen-is, w.here-is) (going_keep_quoted c.loop-i.invariant c.loop-i-test.true c.act_on.ensures w.in-KeepQuoted.is w.take-in-KeepQuoted.ensures)
      | in-Open w ↦ rw (w.seen-is, w.here-is) (going_open c.loop-i.invariant c.loop-i-test.true c.act_on.ensures w.in-Open.is)
      | in-Shut w ↦ rw (w.seen-is, w.here-is) (going_shut c.loop-i.invariant c.loop-i-test.true c.act_on.ensures w.in-Shut.is)
      | in-Return w ↦ rw (w.seen-is, w.here-is) (going_return c.loop-i.invariant c.loop-i-test.true c.act_on.ensures w.in-Return.is)
    ]

pub returns-in-EndField : goal.returns-in-EndField
returns-in-EndField c = going_comma c.loop-i.invariant c.loop-i-test.true c.act_on.ensures c.in-EndField.is

pub returns-in-EndLine : goal.returns-in-EndLine
returns-in-EndLine c = going_line c.loop-i.invariant c.loop-i-test.true c.act_on.ensures c.in-EndLine.is

pub returns-in-Bad : goal.returns-in-Bad
returns-in-Bad c = going_wrong c.loop-i.invariant c.loop-i-test.true c.act_on.ensures c.in-Bad.is

pub returns : goal.returns
returns c = going_ends c.loop-i.invariant c.loop-i-test.false c.close_at.ensures
