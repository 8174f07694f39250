-- `stack_operators::cvlit` meets its contract: the topmost item is made literal.
-- Assumes nothing.
use Rattle.machine.proofs.Outcomes.{named}
use Rattle.stack_operators.proofs.Scalars.{cvlit_is}
use Rattle.stack_operators.proofs.cvlit.Goals as goal

pub returns : goal.returns
returns c = named cvlit_is c.convert.ensures
