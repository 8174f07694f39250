-- `run` meets its contract: a refusal, or the run with whole slots (`answered`).
-- Assumes nothing.
use mathlib.Core.Path.{sym}
use lib.Seq.{length-take-le}
use native.Mathlib.Omega.{arith}
use Rattle.runner.proofs.Answering.{passed_on, ready, answered}
use Rattle.runner.proofs.run.Goals as goal

pub returns-in_err-check : goal.returns-in_err-check
returns-in_err-check c = passed_on _ _ c.in_err-check.ensures c.from_residual.ensures.1

pub overflow_mul-a : goal.overflow_mul-a
overflow_mul-a c = omega arith

pub overflow_mul-b : goal.overflow_mul-b
overflow_mul-b c = omega arith

pub overflow_mul-c : goal.overflow_mul-c
overflow_mul-c c = omega arith

pub overflow_mul-d : goal.overflow_mul-d
overflow_mul-d c = omega arith

pub slice_bounds-carry_out-end : goal.slice_bounds-carry_out-end
slice_bounds-carry_out-end c = omega arith

pub slice_bounds-carry_out-end-2 : goal.slice_bounds-carry_out-end-2
slice_bounds-carry_out-end-2 c = sym (length-take-le _ c.args.stack.now (omega arith))

pub slice_bounds-carry_out-end-3 : goal.slice_bounds-carry_out-end-3
slice_bounds-carry_out-end-3 c = omega arith

pub slice_bounds-carry_out-end-4 : goal.slice_bounds-carry_out-end-4
slice_bounds-carry_out-end-4 c = sym (length-take-le _ c.args.exec.now (omega arith))

pub slice_bounds-carry_out-end-5 : goal.slice_bounds-carry_out-end-5
slice_bounds-carry_out-end-5 c = omega arith

pub slice_bounds-carry_out-end-6 : goal.slice_bounds-carry_out-end-6
slice_bounds-carry_out-end-6 c = sym (length-take-le _ c.args.dict.now (omega arith))

pub slice_bounds-carry_out-end-7 : goal.slice_bounds-carry_out-end-7
slice_bounds-carry_out-end-7 c = omega arith

pub slice_bounds-carry_out-end-8 : goal.slice_bounds-carry_out-end-8
slice_bounds-carry_out-end-8 c = sym (length-take-le _ c.args.cells.now (omega arith))

pub carry_out-report-requires : goal.carry_out-report-requires
carry_out-report-requires c = ready c.args.script.now c.args.fuel c.args.stack.now c.args.exec.now c.args.dict.now c.args.cells.now c.args.log.now c.args.outcome.now c.in_ok-check.ensures

pub shape_of-log : goal.shape_of-log
shape_of-log c = c.carry_out-report.auto.log

pub shape_of-outcome : goal.shape_of-outcome
shape_of-outcome c = c.carry_out-report.auto.outcome

pub returns : goal.returns
returns c = answered c.args.script.now c.args.fuel c.args.stack.now c.args.exec.now c.args.dict.now c.args.cells.now c.args.log.now c.args.outcome.now c.in_ok-check.ensures c.carry_out-report.auto.stack c.carry_out-report.auto.exec c.carry_out-report.auto.dict c.carry_out-report.auto.cells c.carry_out-report.ensures
