-- `forf_machine::Machine::one_int` meets its contract: each way to an answer by its law.
-- Assumes nothing.
use Rattle.forf_machine.proofs.Operating.{one_none, one_other, one_got}
use Rattle.forf_machine.proofs.Machine.one_int.Goals as goal

pub returns-then-depth-lt1 : goal.returns-then-depth-lt1
returns-then-depth-lt1 c = one_none _ _ c.if-depth-lt1.true

pub returns-then-stack-x-ne-TAG_INTEGER : goal.returns-then-stack-x-ne-TAG_INTEGER
returns-then-stack-x-ne-TAG_INTEGER c = one_other _ _ c.if-depth-lt1.false c.if-stack-x-ne-TAG_INTEGER.true

pub returns : goal.returns
returns c = one_got _ _ c.if-depth-lt1.false c.if-stack-x-ne-TAG_INTEGER.false
