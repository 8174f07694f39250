-- `take_executable` meets its contract: a name that has a slot is taken by it (`take_name`), and one that has none is undefined.
-- Assumes nothing.
use Rattle.taking.proofs.Executing.{name_there, name_taken, name_missing}
use Rattle.taking.proofs.take_executable.Goals as goal

pub returns-in_default : goal.returns-in_default
returns-in_default c = name_missing c.in_default.ensures.finds

pub take_name-requires : goal.take_name-requires
take_name-requires c = name_there c.in-Some.ensures.finds c.in-Some.ensures.upper_bound c.requires.1

pub returns : goal.returns
returns c = name_taken c.in-Some.ensures.finds c.in-Some.ensures.upper_bound c.take_name.ensures
