-- `advance` meets its contract: the outer loop keeps `Running`, and an error that is handed over leaves less of the fuel.
-- Assumes nothing.
use native.Mathlib.Omega.{arith}
use mathlib.Core.Path.{refl, ◌∙◌}
use Rattle.run_loop.proofs.Running.{begin, halted, halts_as, hand_asks, after_low, ends_unhandled, ends_halted, handed_on, handed_less}
use Rattle.run_loop.proofs.advance.Goals as goal

pub overflow_add-limit : goal.overflow_add-limit
overflow_add-limit c = let pre = c.requires in
    omega (arith, pre.fueled)

pub loop-e-init : goal.loop-e-init
loop-e-init c = let pre = c.requires in
    begin (pre) refl

pub until_error-ended-requires : goal.until_error-ended-requires
until_error-ended-requires c = (_, _, refl, c.loop-e.invariant)

pub shape_of-stack-in_default : goal.shape_of-stack-in_default
shape_of-stack-in_default c = c.until_error-ended.auto.stack ∙ c.loop-e.invariant.ls

pub shape_of-exec-in_default : goal.shape_of-exec-in_default
shape_of-exec-in_default c = c.until_error-ended.auto.exec ∙ c.loop-e.invariant.le

pub shape_of-dict-in_default : goal.shape_of-dict-in_default
shape_of-dict-in_default c = c.until_error-ended.auto.dict ∙ c.loop-e.invariant.ld

pub shape_of-cells-in_default : goal.shape_of-cells-in_default
shape_of-cells-in_default c = c.until_error-ended.auto.cells ∙ c.loop-e.invariant.lc

pub shape_of-log-in_default : goal.shape_of-log-in_default
shape_of-log-in_default c = c.until_error-ended.auto.log ∙ c.loop-e.invariant.ll

pub returns-in_default : goal.returns-in_default
returns-in_default c = halted _ _ c.in_default.not-Failed (halts_as c.until_error-ended.ensures refl c.loop-e.invariant refl)

pub hand_over-handed-requires : goal.hand_over-handed-requires
hand_over-handed-requires c = hand_asks (halts_as c.until_error-ended.ensures refl c.loop-e.invariant c.in-Failed.is)

pub shape_of-stack-in_default-handed : goal.shape_of-stack-in_default-handed
shape_of-stack-in_default-handed c = c.until_error-ended.auto.stack ∙ c.loop-e.invariant.ls

pub shape_of-exec-in_default-handed : goal.shape_of-exec-in_default-handed
shape_of-exec-in_default-handed c = c.hand_over-handed.auto.exec ∙ c.until_error-ended.auto.exec ∙ c.loop-e.invariant.le

pub shape_of-dict-in_default-handed : goal.shape_of-dict-in_default-handed
shape_of-dict-in_default-handed c = c.hand_over-handed.auto.dict ∙ c.until_error-ended.auto.dict ∙ c.loop-e.invariant.ld

pub shape_of-cells-in_default-handed : goal.shape_of-cells-in_default-handed
shape_of-cells-in_default-handed c = c.hand_over-handed.auto.cells ∙ c.until_error-ended.auto.cells ∙ c.loop-e.invariant.lc

pub shape_of-log-in_default-handed : goal.shape_of-log-in_default-handed
shape_of-log-in_default-handed c = c.until_error-ended.auto.log ∙ c.loop-e.invariant.ll

pub returns-in_default-handed : goal.returns-in_default-handed
returns-in_default-handed c = rw c.in-Failed.is (ends_unhandled (halts_as c.until_error-ended.ensures refl c.loop-e.invariant c.in-Failed.is) c.hand_over-handed.ensures c.hand_over-handed.auto.exec c.hand_over-handed.auto.dict c.hand_over-handed.auto.cells c.in_default-handed.is)

pub after-requires : goal.after-requires
after-requires c = after_low (halts_as c.until_error-ended.ensures refl c.loop-e.invariant c.in-Failed.is)

pub shape_of-stack-then-r : goal.shape_of-stack-then-r
shape_of-stack-then-r c = c.until_error-ended.auto.stack ∙ c.loop-e.invariant.ls

pub shape_of-exec-then-r : goal.shape_of-exec-then-r
shape_of-exec-then-r c = c.hand_over-handed.auto.exec ∙ c.until_error-ended.auto.exec ∙ c.loop-e.invariant.le

pub shape_of-dict-then-r : goal.shape_of-dict-then-r
shape_of-dict-then-r c = c.hand_over-handed.auto.dict ∙ c.until_error-ended.auto.dict ∙ c.loop-e.invariant.ld

pub shape_of-cells-then-r : goal.shape_of-cells-then-r
shape_of-cells-then-r c = c.hand_over-handed.auto.cells ∙ c.until_error-ended.auto.cells ∙ c.loop-e.invariant.lc

pub shape_of-log-then-r : goal.shape_of-log-then-r
shape_of-log-then-r c = c.until_error-ended.auto.log ∙ c.loop-e.invariant.ll

pub returns-then-r : goal.returns-then-r
returns-then-r c = ends_halted (halts_as c.until_error-ended.ensures refl c.loop-e.invariant c.in-Failed.is) c.hand_over-handed.ensures c.hand_over-handed.auto.exec c.hand_over-handed.auto.dict c.hand_over-handed.auto.cells c.in-Some.is c.after.ensures c.if-r.true

pub loop-e-smaller : goal.loop-e-smaller
loop-e-smaller c = handed_less (halts_as c.until_error-ended.ensures refl c.loop-e.invariant c.in-Failed.is) c.hand_over-handed.ensures c.hand_over-handed.auto.exec c.hand_over-handed.auto.dict c.hand_over-handed.auto.cells c.in-Some.is c.after.ensures

pub loop-e-preserved : goal.loop-e-preserved
loop-e-preserved c = handed_on (halts_as c.until_error-ended.ensures refl c.loop-e.invariant c.in-Failed.is) c.hand_over-handed.ensures c.hand_over-handed.auto.exec c.hand_over-handed.auto.dict c.hand_over-handed.auto.cells c.in-Some.is c.after.ensures c.if-r.false
