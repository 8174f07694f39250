-- `proceed` meets its contract: the steps, then the outcome (`proceeded`).
-- Assumes nothing.
use Rattle.runner.proofs.Carrying.{writes, proceeded}
use Rattle.runner.proofs.proceed.Goals as goal

pub advance-ended-requires : goal.advance-ended-requires
advance-ended-requires c = c.requires.begun

pub write-n-requires : goal.write-n-requires
write-n-requires c = writes c.requires c.advance-ended.ensures c.advance-ended.auto.stack c.advance-ended.auto.log

pub shape_of-stack : goal.shape_of-stack
shape_of-stack c = c.advance-ended.auto.stack

pub shape_of-exec : goal.shape_of-exec
shape_of-exec c = c.advance-ended.auto.exec

pub shape_of-dict : goal.shape_of-dict
shape_of-dict c = c.advance-ended.auto.dict

pub shape_of-cells : goal.shape_of-cells
shape_of-cells c = c.advance-ended.auto.cells

pub shape_of-log : goal.shape_of-log
shape_of-log c = c.advance-ended.auto.log

pub shape_of-outcome : goal.shape_of-outcome
shape_of-outcome c = c.write-n.auto.out

pub returns : goal.returns
returns c = proceeded c.requires c.advance-ended.ensures c.advance-ended.auto.stack c.advance-ended.auto.log c.write-n.ensures
