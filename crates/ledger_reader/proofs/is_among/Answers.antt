-- `is_among` meets its contract: what `contains` tells of the list.
-- Assumes nothing.
use mathlib.Core.Path.{◌∙◌}
use Rattle.ledger_reader.proofs.Resting.{among}
use Rattle.ledger_reader.proofs.is_among.Goals as goal

pub returns : goal.returns
returns c = c.contains.ensures.value ∙ among c.args.number c.args.numbers.now
