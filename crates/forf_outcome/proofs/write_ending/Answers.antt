-- `forf_outcome::write_ending` meets its contract: each way to an answer by its law.
-- Assumes nothing.
use Rattle.forf_outcome.proofs.Lining.{ending_as, held_as, failed_as}
use Rattle.forf_semantics.specs.Outcome.{ending_lines}
use Rattle.semantics.specs.Text.{bytes}
use Rattle.forf_outcome.proofs.write_ending.Goals as goal

pub write_failure-requires : goal.write_failure-requires
write_failure-requires c = (held_as _ c.in-Failed.is c.requires.0, c.requires.1)

pub returns-in-Finished : goal.returns-in-Finished
unfolding ending_lines bytes
returns-in-Finished c = ending_as _ c.in-Finished.is c.copy.ensures

pub returns-in-OutOfFuel : goal.returns-in-OutOfFuel
unfolding ending_lines bytes
returns-in-OutOfFuel c = ending_as _ c.in-OutOfFuel.is c.copy-in-OutOfFuel.ensures

pub returns-in-Failed : goal.returns-in-Failed
returns-in-Failed c = failed_as _ c.in-Failed.is c.write_failure.ensures
