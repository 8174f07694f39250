-- `floo::write_answer` meets its contract: the line of the refusal, or the log and then the outcome, each within its buffer.
-- Assumes nothing.
use mathlib.Core.Path.{sym}
use Rattle.semantics.specs.Text.{bytes}
use Rattle.floo.proofs.Printing.{within_run, parts, told_refusal, told_run}
use native.Mathlib.Omega.{arith}
use Rattle.floo.proofs.write_answer.Goals as goal

pub slice_bounds-copy-end-in-Ok : goal.slice_bounds-copy-end-in-Ok
slice_bounds-copy-end-in-Ok c = sym (parts c.args.log.now c.args.outcome.now c.in-Ok.is c.requires).0

pub copy-next-requires : goal.copy-next-requires
copy-next-requires c = let few = within_run c.args.log.now c.args.outcome.now c.in-Ok.is c.requires in
    let long = parts c.args.log.now c.args.outcome.now c.in-Ok.is c.requires in
    omega (arith, few.2, long.0)

pub slice_bounds-copy-end-in-Ok-3 : goal.slice_bounds-copy-end-in-Ok-3
slice_bounds-copy-end-in-Ok-3 c = sym (parts c.args.log.now c.args.outcome.now c.in-Ok.is c.requires).1

pub copy-requires : goal.copy-requires
copy-requires c = let few = within_run c.args.log.now c.args.outcome.now c.in-Ok.is c.requires in
    let long = parts c.args.log.now c.args.outcome.now c.in-Ok.is c.requires in
    omega (arith, c.copy-next.ensures.end, c.copy-next.auto.out, few.2, long.0, long.1)

pub returns-in-Err : goal.returns-in-Err
unfolding bytes
returns-in-Err c = told_refusal c.args.log.now c.args.outcome.now c.in-Err.is c.number.ensures c.write_number.ensures

pub returns-in-Ok : goal.returns-in-Ok
returns-in-Ok c = told_run c.args.log.now c.args.outcome.now c.in-Ok.is c.copy-next.ensures c.copy.ensures
