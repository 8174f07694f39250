-- `forf_machine::choose` meets its contract: each way to an answer by its law.
-- Assumes nothing.
use Rattle.forf_machine.proofs.Branching.{ifelse_fails, ifelse_lowest, ifelse_middle, ifelse_top, ifelse_false, ifelse_true}
use Rattle.forf_machine.proofs.choose.Goals as goal

pub returns-then-depth-lt3 : goal.returns-then-depth-lt3
returns-then-depth-lt3 c = λ mem. ifelse_fails _ _ _ mem c.if-depth-lt3.true

pub returns-then-stack-x-ne-TAG_INTEGER : goal.returns-then-stack-x-ne-TAG_INTEGER
returns-then-stack-x-ne-TAG_INTEGER c = λ mem. ifelse_lowest _ _ _ mem c.if-depth-lt3.false c.if-stack-x-ne-TAG_INTEGER.true

pub returns-then-stack-s-eq-TAG_INTEGER : goal.returns-then-stack-s-eq-TAG_INTEGER
returns-then-stack-s-eq-TAG_INTEGER c = λ mem. ifelse_middle _ _ _ mem c.if-depth-lt3.false c.if-stack-x-ne-TAG_INTEGER.false c.if-stack-s-eq-TAG_INTEGER.true

pub returns-then-stack-t-eq-TAG_INTEGER : goal.returns-then-stack-t-eq-TAG_INTEGER
returns-then-stack-t-eq-TAG_INTEGER c = λ mem. ifelse_top _ _ _ mem c.if-depth-lt3.false c.if-stack-x-ne-TAG_INTEGER.false c.if-stack-s-eq-TAG_INTEGER.false c.if-stack-t-eq-TAG_INTEGER.true

pub returns-then-stack-x-eq0 : goal.returns-then-stack-x-eq0
returns-then-stack-x-eq0 c = λ mem. ifelse_false _ _ _ mem c.if-depth-lt3.false c.if-stack-x-ne-TAG_INTEGER.false c.if-stack-s-eq-TAG_INTEGER.false c.if-stack-t-eq-TAG_INTEGER.false _ c.with_depth.ensures c.if-stack-x-eq0.true c.pend.ensures

pub returns : goal.returns
returns c = λ mem. ifelse_true _ _ _ mem c.if-depth-lt3.false c.if-stack-x-ne-TAG_INTEGER.false c.if-stack-s-eq-TAG_INTEGER.false c.if-stack-t-eq-TAG_INTEGER.false _ c.with_depth-2.ensures c.if-stack-x-eq0.false c.pend-2.ensures
