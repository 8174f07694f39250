-- `forf_steps::run` meets its contract: each way to an answer by its law.
-- Assumes nothing.
use Rattle.forf_steps.proofs.Running.{begin, end_finished, end_spent, ready, step_counts, go_on_lem, end_failed}
use native.Mathlib.Omega.{arith}
use mathlib.Core.Path.{◌∙◌}
use Rattle.forf_steps.proofs.run.Goals as goal

pub loop-st-init : goal.loop-st-init
loop-st-init c = let pre = c.requires in
    begin _ _ _ _ _ (pre)

pub is_finished-requires : goal.is_finished-requires
is_finished-requires c = c.loop-st.invariant.stands.inside

pub finished-requires : goal.finished-requires
finished-requires c = tt

pub shape_of-stack-then-is_finished : goal.shape_of-stack-then-is_finished
shape_of-stack-then-is_finished c = c.loop-st.invariant.ls

pub shape_of-exec-then-is_finished : goal.shape_of-exec-then-is_finished
shape_of-exec-then-is_finished c = c.loop-st.invariant.le

pub shape_of-memory-then-is_finished : goal.shape_of-memory-then-is_finished
shape_of-memory-then-is_finished c = c.loop-st.invariant.lm

pub returns-then-is_finished : goal.returns-then-is_finished
returns-then-is_finished c = end_finished c.loop-st.invariant c.is_finished.ensures c.if-is_finished.true c.finished.ensures

pub spent-requires : goal.spent-requires
spent-requires c = tt

pub shape_of-stack-then-st-fuel : goal.shape_of-stack-then-st-fuel
shape_of-stack-then-st-fuel c = c.loop-st.invariant.ls

pub shape_of-exec-then-st-fuel : goal.shape_of-exec-then-st-fuel
shape_of-exec-then-st-fuel c = c.loop-st.invariant.le

pub shape_of-memory-then-st-fuel : goal.shape_of-memory-then-st-fuel
shape_of-memory-then-st-fuel c = c.loop-st.invariant.lm

pub returns-then-st-fuel : goal.returns-then-st-fuel
returns-then-st-fuel c = end_spent c.loop-st.invariant c.is_finished.ensures c.if-is_finished.false c.if-st-fuel.true c.spent.ensures

pub step-requires : goal.step-requires
step-requires c = let pre = c.requires in
    ready c.loop-st.invariant c.is_finished.ensures c.if-is_finished.false c.if-st-fuel.false pre.short pre.fueled

pub loop-st-smaller : goal.loop-st-smaller
loop-st-smaller c = omega (arith, step_counts c.loop-st.invariant c.is_finished.ensures c.if-is_finished.false c.if-st-fuel.false c.step.ensures c.in-Ok.is, c.if-st-fuel.false, c.loop-st.invariant.few)

pub loop-st-preserved : goal.loop-st-preserved
loop-st-preserved c = go_on_lem c.loop-st.invariant c.is_finished.ensures c.if-is_finished.false c.if-st-fuel.false c.step.ensures c.in-Ok.is c.step.auto.stack c.step.auto.exec c.step.auto.memory

pub stuck-requires : goal.stuck-requires
stuck-requires c = tt

pub shape_of-stack-in-Err : goal.shape_of-stack-in-Err
shape_of-stack-in-Err c = c.step.auto.stack ∙ c.loop-st.invariant.ls

pub shape_of-exec-in-Err : goal.shape_of-exec-in-Err
shape_of-exec-in-Err c = c.step.auto.exec ∙ c.loop-st.invariant.le

pub shape_of-memory-in-Err : goal.shape_of-memory-in-Err
shape_of-memory-in-Err c = c.step.auto.memory ∙ c.loop-st.invariant.lm

pub returns-in-Err : goal.returns-in-Err
returns-in-Err c = end_failed c.loop-st.invariant c.is_finished.ensures c.if-is_finished.false c.if-st-fuel.false c.step.ensures c.in-Err.is c.stuck.ensures
