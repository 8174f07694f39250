-- `integer_at` meets its contract: the payload of an integer is the integer.
-- Assumes nothing.
use Rattle.interval_operators.proofs.Leaving.{integer_read}
use Rattle.interval_operators.proofs.integer_at.Goals as goal

pub returns : goal.returns
returns c = integer_read _ _ _ c.requires.0
