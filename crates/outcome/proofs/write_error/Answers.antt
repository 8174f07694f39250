-- `write_error` meets its contract: the name of an error has 17 bytes at most.
-- Assumes nothing.
use mathlib.Core.Path.{sym, ap}
use native.Mathlib.Omega.{arith}
use lib.ListN.{length}
use Rattle.semantics.specs.OutcomeLaws.{error_length}
use Rattle.text.proofs.Pasting.{respelt}
use Rattle.outcome.proofs.write_error.Goals as goal

pub copy-requires : goal.copy-requires
copy-requires c = omega (arith, c.requires, error_length c.args.error, ap length c.error_name.ensures)

pub returns : goal.returns
returns c = respelt (sym c.error_name.ensures) c.copy.ensures
