-- `write_kind` meets its contract: what an item begins with has 10 bytes at most.
-- Assumes nothing.
use mathlib.Core.Path.{sym}
use native.Mathlib.Omega.{arith}
use Rattle.text.proofs.Pasting.{respelt}
use Rattle.outcome.proofs.write_kind.Goals as goal

pub copy-requires : goal.copy-requires
copy-requires c = omega (arith, c.requires, c.kind_name.ensures.short)

pub returns : goal.returns
returns c = respelt (sym c.kind_name.ensures.is_text) c.copy.ensures
