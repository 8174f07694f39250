-- `write_ending` meets its contract: three endings are one text each, an error and a token's fault are written in their parts.
-- Assumes nothing.
use native.Mathlib.Omega.{arith}
use Rattle.semantics.specs.Outcome.{ending_lines}
use Rattle.semantics.specs.Text.{bytes}
use Rattle.ending.specs.Endings.{ending_of}
use Rattle.ending.specs.declared.Ending.TheVariants.{Finished, Stopped, OutOfFuel}
use Rattle.outcome.proofs.Commands.{ending_written, failed_room, failed_written, misread_written}
use Rattle.outcome.proofs.write_ending.Goals as goal

pub copy-requires : goal.copy-requires
copy-requires c = omega (arith, c.requires.fits)

pub copy-requires-in-Stopped : goal.copy-requires-in-Stopped
copy-requires-in-Stopped c = omega (arith, c.requires.fits)

pub copy-requires-in-OutOfFuel : goal.copy-requires-in-OutOfFuel
copy-requires-in-OutOfFuel c = omega (arith, c.requires.fits)

pub write_failure-requires : goal.write_failure-requires
write_failure-requires c = failed_room c.requires c.in-Failed.is

pub write_misread-requires : goal.write_misread-requires
write_misread-requires c = omega (arith, c.requires.fits)

pub shape_of-out-in-Finished : goal.shape_of-out-in-Finished
shape_of-out-in-Finished c = c.copy.auto.out

pub returns-in-Finished : goal.returns-in-Finished
unfolding ending_lines ending_of bytes
returns-in-Finished c = ending_written Finished (λ names. c.copy.ensures) c.in-Finished.is

pub shape_of-out-in-Stopped : goal.shape_of-out-in-Stopped
shape_of-out-in-Stopped c = c.copy-in-Stopped.auto.out

pub returns-in-Stopped : goal.returns-in-Stopped
unfolding ending_lines ending_of bytes
returns-in-Stopped c = ending_written Stopped (λ names. c.copy-in-Stopped.ensures) c.in-Stopped.is

pub shape_of-out-in-OutOfFuel : goal.shape_of-out-in-OutOfFuel
shape_of-out-in-OutOfFuel c = c.copy-in-OutOfFuel.auto.out

pub returns-in-OutOfFuel : goal.returns-in-OutOfFuel
unfolding ending_lines ending_of bytes
returns-in-OutOfFuel c = ending_written OutOfFuel (λ names. c.copy-in-OutOfFuel.ensures) c.in-OutOfFuel.is

pub shape_of-out-in-Failed : goal.shape_of-out-in-Failed
shape_of-out-in-Failed c = c.write_failure.auto.out

pub returns-in-Failed : goal.returns-in-Failed
returns-in-Failed c = failed_written c.in-Failed.is c.write_failure.ensures

pub shape_of-out-in-Misread : goal.shape_of-out-in-Misread
shape_of-out-in-Misread c = c.write_misread.auto.out

pub returns-in-Misread : goal.returns-in-Misread
returns-in-Misread c = misread_written c.in-Misread.is c.write_misread.ensures
