-- `control_operators::stop` meets its contract: no place changes what it names.
-- Assumes nothing.
use Rattle.control_operators.proofs.Leaving.{stop_does}
use Rattle.control_operators.proofs.stop.Goals as goal

pub returns : goal.returns
returns c = stop_does
