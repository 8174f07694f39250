-- `forf_runner::run` meets its contract: each way to an answer by its law.
-- Assumes nothing.
use Rattle.forf_runner.proofs.Answering.{refuses, wrong_memory, ready, answered}
use native.Mathlib.Omega.{arith}
use lib.Seq.{length-take-le}
use mathlib.Core.Path.{refl, sym}
use Rattle.std.proofs.lemmas.Result.{err_from_is_err_and}
use Rattle.forf_runner.proofs.run.Goals as goal

pub returns-in_err-set_up : goal.returns-in_err-set_up
returns-in_err-set_up c = let p = err_from_is_err_and c.from_residual.result c.from_residual.ensures.1 in
    rw (p.1, p.2) (refuses _ _ _ _ _ _ refl c.in_err-set_up.ensures.0 c.in_err-set_up.ensures.1)

pub returns-then-memory-ne-MEMORY_SLOTS : goal.returns-then-memory-ne-MEMORY_SLOTS
returns-then-memory-ne-MEMORY_SLOTS c = wrong_memory _ _ _ _ _ _ refl c.in_ok-set_up.ensures c.if-memory-ne-MEMORY_SLOTS.true

pub slice_bounds-carry_out-end-2 : goal.slice_bounds-carry_out-end-2
slice_bounds-carry_out-end-2 c = let args = c.args in
    sym (length-take-le _ args.stack.now (omega arith))

pub slice_bounds-carry_out-end-4 : goal.slice_bounds-carry_out-end-4
slice_bounds-carry_out-end-4 c = let args = c.args in
    sym (length-take-le _ args.exec.now (omega arith))

pub carry_out-report-requires : goal.carry_out-report-requires
carry_out-report-requires c = let args = c.args in
    ready args.script.now args.fuel args.stack.now args.exec.now args.memory.now args.outcome.now refl c.in_ok-set_up.ensures c.if-memory-ne-MEMORY_SLOTS.false

pub returns : goal.returns
returns c = let args = c.args in
    answered args.script.now args.fuel args.stack.now args.exec.now args.memory.now args.outcome.now refl c.in_ok-set_up.ensures c.if-memory-ne-MEMORY_SLOTS.false c.carry_out-report.new.stack c.carry_out-report.new.exec c.carry_out-report.auto.stack c.carry_out-report.auto.exec c.carry_out-report.ensures
