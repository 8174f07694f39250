-- `tally_lines` meets its contract: the flaw that is told so far and those that are left tell the stage that the text does not pass (Tallying).
-- Assumes nothing.
use Rattle.std.proofs.Common.{◌∙◌, ap, Err}
use Rattle.ledger_reader.proofs.Tallying.{tallying_starts, tallying_ends, tallied_flaw, tallied_all, tallying_uneven, tallying_flawed, tallying_good}
use Rattle.ledger_reader.proofs.tally_lines.Goals as goal
use Rattle.ledger_reader.proofs.tally_lines.Goals.{in-Err+in_default-flaw, in_default-entry}

pub loop-line-init : goal.loop-line-init
loop-line-init c = tallying_starts _ _ c.requires

pub returns-in-FieldCount : goal.returns-in-FieldCount
returns-in-FieldCount c = tallying_uneven c.loop-line.invariant c.in-Some.ensures (c.in-Err.is ∙ ap (λ f. Err f) c.in-FieldCount.is)

pub loop-line-preserved : goal.loop-line-preserved
loop-line-preserved c =
    elim c.match-line.branch [
      | in-Err+in_default-flaw w ↦ rw w.worst-is (tallying_flawed c.loop-line.worst c.loop-line.invariant c.in-Some.ensures _ w.in-Err.is w.in_default-flaw.not-FieldCount w.worse.ensures)
      | in_default-entry w ↦ rw w.worst-is (tallying_good c.loop-line.worst c.loop-line.invariant c.in-Some.ensures w.in_default-entry.is)
    ]

pub returns-in-Some-worst : goal.returns-in-Some-worst
returns-in-Some-worst c = tallied_flaw c.loop-line.worst (tallying_ends c.loop-line.worst c.loop-line.invariant c.in_default.ensures) c.in-Some-worst.is

pub returns-in-None : goal.returns-in-None
returns-in-None c = tallied_all c.loop-line.worst (tallying_ends c.loop-line.worst c.loop-line.invariant c.in_default.ensures) c.in-None.is
