-- `turns::for_turn` meets its contract: the loop goes where its number is beyond the final one or has left 32 bits, else the number is pushed, the slot reset and the body pending.
-- Assumes nothing.
use Rattle.std.proofs.lemmas.Result.{err_from_is_err_and}
use Rattle.turns.proofs.Looping.{pushed_slots, for_stands, for_ends, for_full, for_over, for_goes, counted}
use Prim.Native.Nat.{◌+◌, ◌-◌, ◌*◌}
use native.Mathlib.Omega.{arith}
use mathlib.Core.Path.{sym, ◌∙◌}
use borrow.Author.Rules.{rules}
use Prim.Native.Nat.{ℕ}
use mir.Val.{Fits}
use mir.Syntax.{w32}
use lib.ListN.{get_or}
use Rattle.turns.proofs.for_turn.Goals as goal

pub returns-then-is_over : goal.returns-then-is_over
returns-then-is_over c = let pre = c.requires in
    for_ends pre.0 pre.1 (sym c.is_over.ensures ∙ c.if-is_over.true) c.drop_frame.ensures.moves_frames

pub returns-in_err-has_slot : goal.returns-in_err-has_slot
returns-in_err-has_slot c =
    let pre = c.requires in
    let fits : (i : ℕ) → Fits w32 (get_or c.args.exec.now i 0) = search rules in
    let p = err_from_is_err_and c.from_residual.result c.from_residual.ensures.1 in
    rw (p.1, p.2, c.in_err-has_slot.ensures.1) (for_full pre.0 pre.1 (fits (8 * (c.args.m.frames - 1) + 3)).fits (sym c.is_over.ensures ∙ c.if-is_over.false) c.in_err-has_slot.ensures.0)

pub returns-in_err-has_room : goal.returns-in_err-has_room
returns-in_err-has_room c =
    let pre = c.requires in
    let fits : (i : ℕ) → Fits w32 (get_or c.args.exec.now i 0) = search rules in
    let p = err_from_is_err_and c.from_residual-in_err-has_room.result c.from_residual-in_err-has_room.ensures.1 in
    rw (p.1, p.2, c.in_err-has_room.ensures.1) (for_over pre.0 pre.1 (fits (8 * (c.args.m.frames - 1) + 3)).fits (sym c.is_over.ensures ∙ c.if-is_over.false) c.in_ok-has_slot.ensures (omega (arith, c.in_err-has_room.ensures.0)))

pub reset_top-requires : goal.reset_top-requires
reset_top-requires c = let pre = c.requires in
    let same = pushed_slots c.push_scalar-pushed.ensures.pushes pre.2 in (omega (arith, same, pre.0), omega (arith, same, c.in_ok-has_slot.ensures))

pub pend_body-requires : goal.pend_body-requires
pend_body-requires c = let pre = c.requires in
    let fits : (i : ℕ) → Fits w32 (get_or c.args.exec.now i 0) = search rules in
    let same = pushed_slots c.push_scalar-pushed.ensures.pushes pre.2 in
    (omega (arith, same, pre.0), omega (arith, same, c.in_ok-has_slot.ensures, c.reset_top.auto.exec), for_stands pre.0 c.push_scalar-pushed.ensures.pushes (counted c.args.exec.now (c.args.m.frames - 1) fits c.kind_after-kind.ensures c.add.ensures) c.reset_top.ensures.resets pre.2)

pub shape_of-stack : goal.shape_of-stack
shape_of-stack c = c.push_scalar-pushed.auto.stack

pub shape_of-exec : goal.shape_of-exec
shape_of-exec c = c.pend_body.auto.exec ∙ c.reset_top.auto.exec

pub shape_of-cells : goal.shape_of-cells
shape_of-cells c = c.pend_body.auto.cells

pub returns : goal.returns
returns c = let pre = c.requires in
    let fits : (i : ℕ) → Fits w32 (get_or c.args.exec.now i 0) = search rules in
    for_goes pre.0 pre.1 (fits (8 * (c.args.m.frames - 1) + 3)).fits (sym c.is_over.ensures ∙ c.if-is_over.false) c.push_scalar-pushed.ensures.pushes (counted c.args.exec.now (c.args.m.frames - 1) fits c.kind_after-kind.ensures c.add.ensures) c.reset_top.ensures.resets c.pend_body.ensures.moves_frames c.push_scalar-pushed.auto.stack (c.pend_body.auto.exec ∙ c.reset_top.auto.exec)
