-- `feed` meets its contract: by its test (`feed_blank`, `feed_line`).
-- Assumes nothing.
use Rattle.output_operators.proofs.Lines.{feed_blank, feed_line}
use Rattle.output_operators.proofs.feed.Goals as goal

pub returns-then-left-gt0 : goal.returns-then-left-gt0
returns-then-left-gt0 c = feed_blank _ c.if-left-gt0.true

pub returns : goal.returns
returns c = feed_line _ c.if-left-gt0.false
