-- `unit` meets its contract: no bit is shifted out.
-- Assumes nothing.
use Rattle.std.proofs.lemmas.Nat.{one_shl}
use native.Mathlib.Omega.{arith}
use Rattle.elements.proofs.unit.Goals as goal

pub returns : goal.returns
returns c = one_shl _ 32 (omega (arith, c.requires))
