-- `forf_steps::step` meets its contract: each way to an answer by its law.
-- Assumes nothing.
use Rattle.forf_steps.proofs.Stepping.{pending_frames, place_inside, pending_steps, nothing_steps, moved_rep, item_steps, item_fails, fails_as}
use Rattle.forf_steps.specs.Stepping.{Acts}
use native.Mathlib.Omega.{arith}
use mathlib.Core.Path.{subst}
use Rattle.forf_steps.proofs.step.Goals as goal

pub overflow_sub-m : goal.overflow_sub-m
overflow_sub-m c = let pre = c.requires in
    pending_frames (pre) c.is_pending.ensures c.if-is_pending.true

pub overflow_cast-place : goal.overflow_cast-place
overflow_cast-place c = let pre = c.requires in
    omega (arith, place_inside (pre) c.is_pending.ensures c.place_of-place.ensures, pre.short)

pub put-requires : goal.put-requires
put-requires c = let pre = c.requires in
    let f = pending_frames (pre) c.is_pending.ensures c.if-is_pending.true in omega (arith, pre.rep.exec_fits)

pub returns-then-is_pending : goal.returns-then-is_pending
returns-then-is_pending c = let pre = c.requires in
    pending_steps (pre) c.is_pending.ensures c.place_of-place.ensures c.if-is_pending.true c.put.ensures c.after.ensures

pub skip-start-requires : goal.skip-start-requires
skip-start-requires c = let pre = c.requires in
    place_inside (pre) c.is_pending.ensures c.place_of-place.ensures

pub returns-in_default : goal.returns-in_default
returns-in_default c = let pre = c.requires in
    let args = c.args in
    nothing_steps (pre) c.is_pending.ensures c.place_of-place.ensures c.if-is_pending.false _ c.skip-start.ensures.value c.skip-start.ensures.upper_bound c.in_default.ensures c.no_item.ensures

pub move_on-requires : goal.move_on-requires
move_on-requires c = let args = c.args in
    let pre = c.requires in
    let T = c.in-Some.ensures in
    (pre.rep.exec_fits, omega (arith, T.inside, pre.short))

pub act-requires : goal.act-requires
act-requires c = let args = c.args in
    let pre = c.requires in
    let T = c.in-Some.ensures in
    let R = moved_rep (pre) c.is_pending.ensures c.place_of-place.ensures c.if-is_pending.false _ c.skip-start.ensures.value _ T c.move_on.ensures in
    record { held = T.held; lent = record { stack_fits = R.stack_fits; exec_fits = R.exec_fits; memory_slots_lem = R.memory_slots_lem }; short = pre.short }

pub after-requires-in-Ok : goal.after-requires-in-Ok
after-requires-in-Ok c = let pre = c.requires in
    pre.few

pub failed-requires : goal.failed-requires
failed-requires c = let pre = c.requires in
    pre.few

pub returns-in-Ok : goal.returns-in-Ok
returns-in-Ok c = let args = c.args in
    let pre = c.requires in
    let T = c.in-Some.ensures in
    let A = subst (Acts args.script.now _ _ _ _ _ _ _ _) c.in-Ok.is c.act.ensures in
    item_steps (pre) c.is_pending.ensures c.place_of-place.ensures c.if-is_pending.false _ c.skip-start.ensures.value _ T c.move_on.ensures A c.after-in-Ok.ensures

pub returns-in-Err : goal.returns-in-Err
returns-in-Err c = let args = c.args in
    let pre = c.requires in
    let T = c.in-Some.ensures in
    let A = subst (Acts args.script.now _ _ _ _ _ _ _ _) c.in-Err.is c.act.ensures in
    fails_as c.command_of.ensures (item_fails (pre) c.is_pending.ensures c.place_of-place.ensures c.if-is_pending.false _ c.skip-start.ensures.value _ T c.move_on.ensures A c.failed.ensures)
