-- `name_size` meets its contract: the first word of a slot is the length of its name (`size_says`).
-- Assumes nothing.
use Rattle.names.proofs.Spelling.{size_says}
use Rattle.names.proofs.name_size.Goals as goal

pub returns : goal.returns
returns c = size_says _ _
