-- `pass_top` meets its contract, by the kind of the topmost slot.
-- Assumes nothing.
use Rattle.handover.proofs.Passing.{pass_none, pass_pending, pass_running, pass_repeating_none, pass_repeating, pass_counting, pass_other}
use Prim.Native.Nat.{◌-◌}
use Rattle.turns.proofs.Looping.{counted}
use native.Mathlib.Omega.{arith}
use borrow.Author.Rules.{rules}
use mir.Val.{Fits}
use mir.Syntax.{w32}
use lib.ListN.{get_or}
use Prim.Native.Nat.{ℕ}
use Rattle.handover.proofs.pass_top.Goals as goal

pub returns-then-m-eq0 : goal.returns-then-m-eq0
returns-then-m-eq0 c = pass_none c.if-m-eq0.true

pub bounds-exec-k : goal.bounds-exec-k
bounds-exec-k c = let pre = c.requires in
    omega (arith, c.if-m-eq0.false, pre.1.4.rooms.exec_fits)

pub drop_frame-requires : goal.drop_frame-requires
drop_frame-requires c = let pre = c.requires in
    (omega (arith, c.if-m-eq0.false), pre.1)

pub returns-then-kind-eq-PENDING : goal.returns-then-kind-eq-PENDING
returns-then-kind-eq-PENDING c = pass_pending c.if-m-eq0.false c.if-kind-eq-PENDING.true c.drop_frame.ensures.moves_frames

pub advance-requires : goal.advance-requires
advance-requires c = let pre = c.requires in
    (omega (arith, c.if-m-eq0.false), c.if-kind-eq-RUNNING.true, pre.0.running _ (omega (arith, c.if-m-eq0.false)) c.if-kind-eq-RUNNING.true, pre.1)

pub returns-then-kind-eq-RUNNING : goal.returns-then-kind-eq-RUNNING
returns-then-kind-eq-RUNNING c = pass_running c.if-m-eq0.false c.if-kind-eq-RUNNING.true c.advance.ensures.advances

pub bounds-exec-k-2 : goal.bounds-exec-k-2
bounds-exec-k-2 c = let pre = c.requires in
    omega (arith, c.if-m-eq0.false, pre.1.4.rooms.exec_fits)

pub bounds-exec-k-3 : goal.bounds-exec-k-3
bounds-exec-k-3 c = let pre = c.requires in
    omega (arith, c.if-m-eq0.false, pre.1.4.rooms.exec_fits)

pub returns-then-n-eq0 : goal.returns-then-n-eq0
returns-then-n-eq0 c = pass_repeating_none c.if-m-eq0.false c.if-kind-eq-REPEAT.true c.if-n-eq0.true

pub overflow_sub-n : goal.overflow_sub-n
overflow_sub-n c = omega (arith, c.if-n-eq0.false)

pub reset_top-requires : goal.reset_top-requires
reset_top-requires c = let pre = c.requires in
    (omega (arith, c.if-m-eq0.false), pre.1.4.rooms.exec_fits)

pub shape_of-exec-then-kind-eq-REPEAT : goal.shape_of-exec-then-kind-eq-REPEAT
shape_of-exec-then-kind-eq-REPEAT c = c.reset_top.auto.exec

pub returns-then-kind-eq-REPEAT : goal.returns-then-kind-eq-REPEAT
returns-then-kind-eq-REPEAT c = pass_repeating c.if-m-eq0.false c.if-kind-eq-REPEAT.true c.reset_top.ensures.resets

pub reset_top-requires-then-kind-eq-FOR : goal.reset_top-requires-then-kind-eq-FOR
reset_top-requires-then-kind-eq-FOR c = let pre = c.requires in
    (omega (arith, c.if-m-eq0.false), pre.1.4.rooms.exec_fits)

pub shape_of-exec : goal.shape_of-exec
shape_of-exec c = c.reset_top-then-kind-eq-FOR.auto.exec

pub returns-then-kind-eq-FOR : goal.returns-then-kind-eq-FOR
returns-then-kind-eq-FOR c = let args = c.args in
    let fits : (i : ℕ) → Fits w32 (get_or args.exec.now i 0) = search rules in
    pass_counting c.if-m-eq0.false c.if-kind-eq-FOR.true (counted args.exec.now (args.m.frames - 1) fits c.kind_after.ensures c.add.ensures) c.reset_top-then-kind-eq-FOR.ensures.resets

pub returns-else-kind-eq-FOR : goal.returns-else-kind-eq-FOR
returns-else-kind-eq-FOR c = let pre = c.requires in
    pass_other c.if-m-eq0.false pre.0 c.if-kind-eq-PENDING.false c.if-kind-eq-RUNNING.false c.if-kind-eq-REPEAT.false c.if-kind-eq-FOR.false
