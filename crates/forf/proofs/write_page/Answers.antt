-- `forf::write_page` meets its contract: each way to an answer by its law.
-- Assumes nothing.
use Rattle.forf.proofs.Printing.{counts, prints}
use Rattle.forf_runner.specs.Promise.{lent_of}
use native.Mathlib.Omega.{arith}
use mathlib.Core.Path.{refl}
use Rattle.forf.proofs.write_page.Goals as goal

pub write_answer-requires : goal.write_answer-requires
write_answer-requires c = counts c.run-answer.ensures (omega (arith, c.run-answer.auto))

pub returns : goal.returns
unfolding lent_of
returns c = prints c.run-answer.ensures refl refl c.write_answer.ensures
