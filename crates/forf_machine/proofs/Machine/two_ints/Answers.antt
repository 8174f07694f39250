-- `forf_machine::Machine::two_ints` meets its contract: each way to an answer by its law.
-- Assumes nothing.
use Rattle.forf_machine.proofs.Operating.{two_few, two_lower, two_upper, two_got}
use Rattle.forf_machine.proofs.Machine.two_ints.Goals as goal

pub returns-then-depth-lt2 : goal.returns-then-depth-lt2
returns-then-depth-lt2 c = two_few _ _ c.if-depth-lt2.true

pub returns-then-stack-y-ne-TAG_INTEGER : goal.returns-then-stack-y-ne-TAG_INTEGER
returns-then-stack-y-ne-TAG_INTEGER c = two_lower _ _ c.if-depth-lt2.false c.if-stack-y-ne-TAG_INTEGER.true

pub returns-then-stack-x-ne-TAG_INTEGER : goal.returns-then-stack-x-ne-TAG_INTEGER
returns-then-stack-x-ne-TAG_INTEGER c = two_upper _ _ c.if-depth-lt2.false c.if-stack-y-ne-TAG_INTEGER.false c.if-stack-x-ne-TAG_INTEGER.true

pub returns : goal.returns
returns c = two_got _ _ c.if-depth-lt2.false c.if-stack-y-ne-TAG_INTEGER.false c.if-stack-x-ne-TAG_INTEGER.false
