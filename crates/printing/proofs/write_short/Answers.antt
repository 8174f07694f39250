-- `write_short` meets its contract: the text is the bytes that it copies (`short_deep`, `short_none`).
-- Assumes nothing.
use Rattle.printing.proofs.Marks.{short_deep, short_none}
use Rattle.text.proofs.Pasting.{respelt}
use lib.ListN.{length}
use mathlib.Core.Path.{ap}
use native.Mathlib.Omega.{arith}
use Rattle.printing.proofs.write_short.Goals as goal

pub copy-requires : goal.copy-requires
copy-requires c = omega (arith, c.requires, ap length (short_deep _ _ _ _ c.if-deep.true c.opening-first.ensures c.byte_after-last.ensures))

pub returns-then-deep : goal.returns-then-deep
returns-then-deep c = respelt (short_deep _ _ _ _ c.if-deep.true c.opening-first.ensures c.byte_after-last.ensures) c.copy.ensures

pub copy-requires-2 : goal.copy-requires-2
copy-requires-2 c = omega (arith, c.requires, ap length (short_none _ _ _ _ c.if-deep.false c.opening-first.ensures c.byte_after-last.ensures))

pub returns : goal.returns
returns c = respelt (short_none _ _ _ _ c.if-deep.false c.opening-first.ensures c.byte_after-last.ensures) c.copy-2.ensures
