-- `until_error` meets its contract: the loop keeps `Going`, and each way out is a law of it. The measure is the steps that are left.
-- Assumes nothing.
use Rattle.run_loop.specs.Halting.{MayHalt}
use Rattle.run_loop.proofs.Running.{Attempt, tried_by, going, may_from, halts_from, one_run, ready, halts_finished, halts_spent, halts_stopped, halts_failed, halts_misread, steps_left, steps_less, going_on}
use Rattle.step.proofs.FrameSteps.{token_tries}
use native.Mathlib.Omega.{arith}
use mathlib.Core.Path.{refl}
use Prim.Native.Nat.{◌-◌, ◌<◌}
use Rattle.run_loop.proofs.until_error.Goals as goal
use Rattle.run_loop.proofs.until_error.Goals.{Joined-m-eq0, then-m-eq0, else-m-eq0}

pub loop-st-init : goal.loop-st-init
loop-st-init c = going

pub is_finished-requires : goal.is_finished-requires
is_finished-requires c = let pre = c.requires in
    (one_run c.loop-st.invariant (may_from c.by_fields-st.ensures (pre))).inside

pub shape_of-stack-then-is_finished : goal.shape_of-stack-then-is_finished
shape_of-stack-then-is_finished c = c.loop-st.invariant.ls

pub shape_of-exec-then-is_finished : goal.shape_of-exec-then-is_finished
shape_of-exec-then-is_finished c = c.loop-st.invariant.le

pub shape_of-dict-then-is_finished : goal.shape_of-dict-then-is_finished
shape_of-dict-then-is_finished c = c.loop-st.invariant.ld

pub shape_of-cells-then-is_finished : goal.shape_of-cells-then-is_finished
shape_of-cells-then-is_finished c = c.loop-st.invariant.lc

pub shape_of-log-then-is_finished : goal.shape_of-log-then-is_finished
shape_of-log-then-is_finished c = c.loop-st.invariant.ll

pub returns-then-is_finished : goal.returns-then-is_finished
returns-then-is_finished c = halts_from c.by_fields-st.ensures (halts_finished c.loop-st.invariant c.is_finished.ensures c.if-is_finished.true c.finish.ensures)

pub shape_of-stack-then-st-limit : goal.shape_of-stack-then-st-limit
shape_of-stack-then-st-limit c = c.loop-st.invariant.ls

pub shape_of-exec-then-st-limit : goal.shape_of-exec-then-st-limit
shape_of-exec-then-st-limit c = c.loop-st.invariant.le

pub shape_of-dict-then-st-limit : goal.shape_of-dict-then-st-limit
shape_of-dict-then-st-limit c = c.loop-st.invariant.ld

pub shape_of-cells-then-st-limit : goal.shape_of-cells-then-st-limit
shape_of-cells-then-st-limit c = c.loop-st.invariant.lc

pub shape_of-log-then-st-limit : goal.shape_of-log-then-st-limit
shape_of-log-then-st-limit c = c.loop-st.invariant.ll

pub returns-then-st-limit : goal.returns-then-st-limit
returns-then-st-limit c = halts_from c.by_fields-st.ensures (halts_spent c.loop-st.invariant c.is_finished.ensures c.if-is_finished.false (omega (arith, c.if-st-limit.true)))

pub take-stepped-requires : goal.take-stepped-requires
take-stepped-requires c = let pre = c.requires in
    (_, ready (one_run c.loop-st.invariant (may_from c.by_fields-st.ensures (pre))) (omega (arith, steps_left c.loop-st.invariant (may_from c.by_fields-st.ensures (pre)), c.if-st-limit.false)), c.if-m-eq0.true)

pub resume-stepped-requires : goal.resume-stepped-requires
resume-stepped-requires c = let pre = c.requires in
    (omega (arith, c.if-m-eq0.false), (_, ready (one_run c.loop-st.invariant (may_from c.by_fields-st.ensures (pre))) (omega (arith, steps_left c.loop-st.invariant (may_from c.by_fields-st.ensures (pre)), c.if-st-limit.false))))

-- What the step was, of either kind, and that there was one to make.
may : (c : Joined-m-eq0) → MayHalt c.args.script.now c.args.limit c.by_fields-st.result c.args.stack.now c.args.exec.now c.args.dict.now c.args.cells.now c.args.log.now
may c = may_from c.by_fields-st.ensures c.requires

some_left : (c : Joined-m-eq0) → 0 < c.args.limit - c.loop-st.st.steps
some_left c = omega (arith, steps_left c.loop-st.invariant (may c), c.if-st-limit.false)

went : (c : Joined-m-eq0) → Attempt c.args.script.now c.loop-st.st c.loop-st.stack c.if-m-eq0.stack c.loop-st.exec c.if-m-eq0.exec c.loop-st.dict c.if-m-eq0.dict c.loop-st.cells c.if-m-eq0.cells c.loop-st.log c.if-m-eq0.log c.if-m-eq0.stepped
went c =
    let run = one_run c.loop-st.invariant (may c) in
    elim c.if-m-eq0.branch [
      | then-m-eq0 w ↦ let t = w.take-stepped in
          tried_by
          (record { tries = token_tries _ _ t.ensures; ls = t.auto.stack; le = t.auto.exec; ld = t.auto.dict; lc = t.auto.cells; ll = refl })
          w.stack-is w.exec-is w.dict-is w.cells-is w.log-is w.stepped-is
      | else-m-eq0 w ↦ let r = w.resume-stepped in
          tried_by
          (record { tries = r.ensures.tries _ run.inside run.within; ls = r.auto.stack; le = r.auto.exec; ld = r.auto.dict; lc = r.auto.cells; ll = r.auto.log })
          w.stack-is w.exec-is w.dict-is w.cells-is w.log-is w.stepped-is
    ]

pub returns-then-now : goal.returns-then-now
returns-then-now c = let j = (goal.at.returns-then-now c).Joined-m-eq0 in
    halts_from c.by_fields-st.ensures (halts_stopped c.loop-st.invariant c.is_finished.ensures c.if-is_finished.false (some_left j) (went j) c.in-Goes.is c.if-now.true)

pub loop-st-smaller : goal.loop-st-smaller
loop-st-smaller c = let j = (goal.at.loop-st-smaller c).Joined-m-eq0 in
    steps_less c.loop-st.invariant c.is_finished.ensures c.if-is_finished.false (some_left j) (went j) c.in-Goes.is c.by_fields-st-in-Goes.ensures (may j)

pub loop-st-preserved : goal.loop-st-preserved
loop-st-preserved c = let j = (goal.at.loop-st-preserved c).Joined-m-eq0 in
    going_on c.loop-st.invariant c.is_finished.ensures c.if-is_finished.false (some_left j) (went j) c.in-Goes.is c.by_fields-st-in-Goes.ensures (may j) c.if-now.false

pub returns-in-Fails : goal.returns-in-Fails
returns-in-Fails c = let j = (goal.at.returns-in-Fails c).Joined-m-eq0 in
    halts_from c.by_fields-st.ensures (halts_failed c.loop-st.invariant c.is_finished.ensures c.if-is_finished.false (some_left j) (went j) c.in-Fails.is)

pub returns-in-Misreads : goal.returns-in-Misreads
returns-in-Misreads c = let j = (goal.at.returns-in-Misreads c).Joined-m-eq0 in
    halts_from c.by_fields-st.ensures (halts_misread c.loop-st.invariant c.is_finished.ensures c.if-is_finished.false (some_left j) (went j) c.in-Misreads.is)
