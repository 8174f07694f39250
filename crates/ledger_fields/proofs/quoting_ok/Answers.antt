-- `quoting_ok` meets its contract. The loop's invariant: the quoting from `at` on, in the mode there, decides.
-- Assumes nothing.
use Rattle.std.proofs.Math.Logic.{inl, inr}
use Rattle.ledger_fields.proofs.Passing.{passing_starts, comma_less, line_less, passing_comma, passing_line, passing_end, passing_over, passing_wrong}
use Rattle.ledger_fields.proofs.quoting_ok.Goals as goal

pub loop-mode-init : goal.loop-mode-init
loop-mode-init c = passing_starts _ _ c.requires

pub field_at-f-requires : goal.field_at-f-requires
field_at-f-requires c = c.loop-mode.invariant.inside

pub loop-mode-smaller-in-Comma : goal.loop-mode-smaller-in-Comma
loop-mode-smaller-in-Comma c = comma_less c.loop-mode.invariant c.field_at-f.ensures c.in-Comma.is

pub loop-mode-preserved-in-Comma : goal.loop-mode-preserved-in-Comma
loop-mode-preserved-in-Comma c = passing_comma c.loop-mode.invariant c.field_at-f.ensures c.in-Comma.is

pub loop-mode-smaller : goal.loop-mode-smaller
loop-mode-smaller c = line_less c.loop-mode.invariant c.field_at-f.ensures c.in-Line.is

pub loop-mode-preserved : goal.loop-mode-preserved
loop-mode-preserved c = passing_line c.loop-mode.invariant c.field_at-f.ensures c.in-Line.is

pub returns-in-End : goal.returns-in-End
returns-in-End c =
    elim c.in-End.is [ inl is ↦ passing_end c.loop-mode.invariant c.field_at-f.ensures is | inr is ↦ passing_over c.loop-mode.invariant c.field_at-f.ensures is ]

pub returns-in-Wrong : goal.returns-in-Wrong
returns-in-Wrong c = passing_wrong c.loop-mode.invariant c.field_at-f.ensures c.in-Wrong.is
