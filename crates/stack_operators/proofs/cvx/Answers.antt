-- `stack_operators::cvx` meets its contract: the topmost item is made executable.
-- Assumes nothing.
use Rattle.machine.proofs.Outcomes.{named}
use Rattle.stack_operators.proofs.Scalars.{cvx_is}
use Rattle.stack_operators.proofs.cvx.Goals as goal

pub returns : goal.returns
returns c = named cvx_is c.convert.ensures
