-- `carry_out` meets its contract: the start, then the run from it (`carried`).
-- Assumes nothing.
use mathlib.Core.Path.{◌∙◌}
use native.Mathlib.Omega.{arith}
use Rattle.runner.proofs.Carrying.{begins, begun_so}
use Rattle.runner.proofs.carry_out.Goals as goal

pub begin-m-requires : goal.begin-m-requires
begin-m-requires c = (c.requires.dict.0, omega (arith, c.requires.dict.1), c.requires.cells)

pub proceed-done-requires : goal.proceed-done-requires
proceed-done-requires c = begins c.requires c.begin-m.ensures c.begin-m.auto.dict

pub shape_of-stack : goal.shape_of-stack
shape_of-stack c = c.proceed-done.auto.stack

pub shape_of-exec : goal.shape_of-exec
shape_of-exec c = c.proceed-done.auto.exec

pub shape_of-dict : goal.shape_of-dict
shape_of-dict c = c.proceed-done.auto.dict ∙ c.begin-m.auto.dict

pub shape_of-cells : goal.shape_of-cells
shape_of-cells c = c.proceed-done.auto.cells

pub shape_of-log : goal.shape_of-log
shape_of-log c = c.proceed-done.auto.log

pub shape_of-outcome : goal.shape_of-outcome
shape_of-outcome c = c.proceed-done.auto.outcome

pub returns : goal.returns
returns c = begun_so c.requires c.begin-m.ensures c.begin-m.auto.dict c.proceed-done.ensures
