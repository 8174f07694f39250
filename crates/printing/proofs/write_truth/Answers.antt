-- `write_truth` meets its contract: the text is the bytes that it copies (`truth_yes`, `truth_no`).
-- Assumes nothing.
use Rattle.printing.proofs.Marks.{truth_yes, truth_no}
use Rattle.text.proofs.Pasting.{respelt}
use lib.ListN.{length}
use native.Mathlib.Omega.{arith}
use mathlib.Core.Path.{ap}
use Rattle.printing.proofs.write_truth.Goals as goal

pub copy-requires : goal.copy-requires
copy-requires c = omega (arith, c.requires, ap length (truth_yes _ c.if-pay-eq1.true))

pub returns-then-pay-eq1 : goal.returns-then-pay-eq1
returns-then-pay-eq1 c = respelt (truth_yes _ c.if-pay-eq1.true) c.copy.ensures

pub copy-requires-2 : goal.copy-requires-2
copy-requires-2 c = omega (arith, c.requires, ap length (truth_no _ c.if-pay-eq1.false))

pub returns : goal.returns
returns c = respelt (truth_no _ c.if-pay-eq1.false) c.copy-2.ensures
