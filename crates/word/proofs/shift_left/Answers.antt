-- `word::shift_left` meets its contract: the machine's shift by less than 32, or 0.
-- Assumes nothing.
use Rattle.std.proofs.Common.{◌∙◌}
use Rattle.word.proofs.Shifts.{left}
use Rattle.word.proofs.shift_left.Goals as goal

pub returns : goal.returns
returns c = c.unwrap_or.ensures ∙ left _ _ _ c.checked_shl.ensures
