-- `run_labelled` meets its contract: refused before the run, or the run with whole slots (`Labelling`).
-- Assumes nothing.
use mathlib.Core.Path.{sym, ap, ◌∙◌}
use lib.Seq.{length-take-le}
use native.Mathlib.Omega.{arith}
use Rattle.floor.specs.Promise.{asked, before_of}
use Rattle.floor.proofs.Labelling.{stopped, label_ready, went}
use Rattle.floor.proofs.run_labelled.Goals as goal

pub slice_bounds-carry_label-end-in-Ok : goal.slice_bounds-carry_label-end-in-Ok
slice_bounds-carry_label-end-in-Ok c = sym (length-take-le _ c.args.stack.now (omega arith))

pub slice_bounds-carry_label-end-in-Ok-3 : goal.slice_bounds-carry_label-end-in-Ok-3
slice_bounds-carry_label-end-in-Ok-3 c = sym (length-take-le _ c.args.exec.now (omega arith))

pub slice_bounds-carry_label-end-in-Ok-5 : goal.slice_bounds-carry_label-end-in-Ok-5
slice_bounds-carry_label-end-in-Ok-5 c = sym (length-take-le _ c.args.dict.now (omega arith))

pub slice_bounds-carry_label-end-in-Ok-7 : goal.slice_bounds-carry_label-end-in-Ok-7
slice_bounds-carry_label-end-in-Ok-7 c = sym (length-take-le _ c.args.cells.now (omega arith))

pub carry_label-requires : goal.carry_label-requires
carry_label-requires c = let A = c.args in
    label_ready A.script.now A.fuel A.label.now A.sound A.stack.now A.exec.now A.dict.now A.cells.now A.log.now A.outcome.now (ap before_of (sym c.in-Ok.is) ∙ c.check.ensures)

pub returns-in-Err : goal.returns-in-Err
returns-in-Err c = let A = c.args in
    stopped (asked A.script.now A.fuel A.label.now A.stack.now A.exec.now A.dict.now A.cells.now A.log.now A.outcome.now) A.sound A.stack.now A.exec.now A.dict.now A.cells.now A.log.now A.outcome.now
    (ap before_of (sym c.in-Err.is) ∙ c.check.ensures) c.refused.ensures

pub returns-in-Ok : goal.returns-in-Ok
returns-in-Ok c = let A = c.args in
    went A.script.now A.fuel A.label.now A.sound A.stack.now A.exec.now A.dict.now A.cells.now A.log.now A.outcome.now (ap before_of (sym c.in-Ok.is) ∙ c.check.ensures)
    c.carry_label.auto.stack c.carry_label.auto.exec c.carry_label.auto.dict c.carry_label.auto.cells c.carry_label.ensures
