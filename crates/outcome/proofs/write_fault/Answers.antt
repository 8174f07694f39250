-- `write_fault` meets its contract: the name of a fault has 10 bytes at most.
-- Assumes nothing.
use mathlib.Core.Path.{sym, ap}
use native.Mathlib.Omega.{arith}
use lib.ListN.{length}
use Rattle.semantics.specs.OutcomeLaws.{fault_length}
use Rattle.text.proofs.Pasting.{respelt}
use Rattle.outcome.proofs.write_fault.Goals as goal

pub copy-requires : goal.copy-requires
copy-requires c = omega (arith, c.requires, fault_length c.args.fault, ap length c.fault_name.ensures)

pub returns : goal.returns
returns c = respelt (sym c.fault_name.ensures) c.copy.ensures
