-- `forf::write_answer` meets its contract: each way to an answer by its law.
-- Assumes nothing.
use Rattle.forf.proofs.Printing.{told_as, told_refusal, within_as}
use Rattle.semantics.specs.Text.{bytes}
use native.Mathlib.Omega.{arith}
use lib.Seq.{length-take-le}
use Rattle.forf.proofs.write_answer.Goals as goal

pub copy-requires : goal.copy-requires
copy-requires c = let few = within_as c.args.outcome.now c.in-Ok.is c.requires in
    omega (arith, length-take-le _ c.args.outcome.now few.0, few.0, few.1)

pub returns-in-Ok : goal.returns-in-Ok
returns-in-Ok c = told_as _ c.in-Ok.is c.copy.ensures

pub returns-in-Some : goal.returns-in-Some
unfolding bytes
returns-in-Some c = told_refusal _ c.in-Err.is c.number.ensures c.in-Some.is c.write_number.ensures

pub returns-in-None : goal.returns-in-None
unfolding bytes
returns-in-None c = told_refusal _ c.in-Err.is c.number.ensures c.in-None.is c.copy-in-None.ensures
