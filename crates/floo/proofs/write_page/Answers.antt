-- `floo::write_page` meets its contract: what is told of the runner's answer is what the definition prints.
-- Assumes nothing.
use mathlib.Core.Path.{refl}
use Rattle.floo.proofs.Printing.{counts, prints}
use native.Mathlib.Omega.{arith}
use Rattle.floo.proofs.write_page.Goals as goal

pub write_answer-requires : goal.write_answer-requires
write_answer-requires c = counts c.run-answer.ensures (omega (arith, c.run-answer.auto.log, c.run-answer.auto.outcome))

pub returns : goal.returns
returns c = prints c.run-answer.ensures (refl, refl, refl, refl, refl, refl) c.write_answer.ensures
