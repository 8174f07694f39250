-- `forf_machine::branch` meets its contract: each way to an answer by its law.
-- Assumes nothing.
use Rattle.forf_machine.proofs.Branching.{if_fails, if_lower, if_upper, if_false, if_true}
use Rattle.forf_machine.proofs.branch.Goals as goal

pub returns-then-depth-lt2 : goal.returns-then-depth-lt2
returns-then-depth-lt2 c = λ mem. if_fails _ _ _ mem c.if-depth-lt2.true

pub returns-then-stack-x-ne-TAG_INTEGER : goal.returns-then-stack-x-ne-TAG_INTEGER
returns-then-stack-x-ne-TAG_INTEGER c = λ mem. if_lower _ _ _ mem c.if-depth-lt2.false c.if-stack-x-ne-TAG_INTEGER.true

pub returns-then-stack-s-eq-TAG_INTEGER : goal.returns-then-stack-s-eq-TAG_INTEGER
returns-then-stack-s-eq-TAG_INTEGER c = λ mem. if_upper _ _ _ mem c.if-depth-lt2.false c.if-stack-x-ne-TAG_INTEGER.false c.if-stack-s-eq-TAG_INTEGER.true

pub returns-then-stack-x-eq0 : goal.returns-then-stack-x-eq0
returns-then-stack-x-eq0 c = λ mem. if_false _ _ _ mem c.if-depth-lt2.false c.if-stack-x-ne-TAG_INTEGER.false c.if-stack-s-eq-TAG_INTEGER.false _ c.with_depth.ensures c.if-stack-x-eq0.true

pub returns : goal.returns
returns c = λ mem. if_true _ _ _ mem c.if-depth-lt2.false c.if-stack-x-ne-TAG_INTEGER.false c.if-stack-s-eq-TAG_INTEGER.false _ c.with_depth-2.ensures c.if-stack-x-eq0.false c.pend.ensures
