-- `line_at` meets its contract: field by field (`Fielding`).
-- Assumes nothing.
use Rattle.ledger_reader.proofs.Fielding.{line_over, line_one, line_two, line_four, line_three}
use Rattle.ledger_reader.proofs.line_at.Goals as goal

pub field_at-first-requires : goal.field_at-first-requires
field_at-first-requires c = c.requires

pub returns-then-is_over : goal.returns-then-is_over
returns-then-is_over c = line_over _ _ c.requires c.field_at-first.ensures c.is_over.ensures c.if-is_over.true

pub returns-then-not-is_comma : goal.returns-then-not-is_comma
returns-then-not-is_comma c = line_one _ _ c.requires c.field_at-first.ensures c.is_over.ensures c.if-is_over.false c.uneven.ensures c.is_comma.ensures c.if-not-is_comma.true

pub field_at-second-requires : goal.field_at-second-requires
field_at-second-requires c = c.field_at-first.ensures.inside

pub returns-then-not-is_comma-2 : goal.returns-then-not-is_comma-2
returns-then-not-is_comma-2 c = line_two _ _ c.requires c.field_at-first.ensures c.is_over.ensures c.if-is_over.false c.uneven-then-not-is_comma-2.ensures c.is_comma.ensures c.if-not-is_comma.false c.field_at-second.ensures c.is_comma-2.ensures c.if-not-is_comma-2.true

pub field_at-third-requires : goal.field_at-third-requires
field_at-third-requires c = c.field_at-second.ensures.inside

pub returns-then-is_comma : goal.returns-then-is_comma
returns-then-is_comma c = line_four _ _ c.requires c.field_at-first.ensures c.is_over.ensures c.if-is_over.false c.uneven-then-is_comma.ensures c.is_comma.ensures c.if-not-is_comma.false c.field_at-second.ensures c.is_comma-2.ensures c.if-not-is_comma-2.false c.field_at-third.ensures c.is_comma-3.ensures c.if-is_comma.true

pub returns : goal.returns
returns c = line_three _ _ c.requires c.field_at-first.ensures c.is_over.ensures c.if-is_over.false c.is_comma.ensures c.if-not-is_comma.false c.field_at-second.ensures c.is_comma-2.ensures c.if-not-is_comma-2.false c.field_at-third.ensures c.is_comma-3.ensures c.if-is_comma.false c.record_of.ensures
