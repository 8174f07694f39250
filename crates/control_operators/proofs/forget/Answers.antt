-- `control_operators::forget` meets its contract: items that name no object are in no count.
-- Assumes nothing.
use Rattle.control_operators.proofs.Entering.{forget_rep}
use native.Mathlib.Omega.{arith}
use Rattle.control_operators.proofs.forget.Goals as goal

pub returns : goal.returns
returns c = forget_rep (omega (arith, c.requires))
