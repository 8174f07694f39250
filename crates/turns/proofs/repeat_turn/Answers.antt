-- `turns::repeat_turn` meets its contract: by the count in the slot's words the loop goes, or has one repetition less and its body pending.
-- Assumes nothing.
use mathlib.Core.Path.{◌∙◌}
use Rattle.std.proofs.lemmas.Result.{err_from_is_err_and}
use Rattle.turns.proofs.Looping.{repeat_ends, repeat_stands, repeat_full, repeat_goes}
use borrow.Author.Rules.{rules}
use native.Mathlib.Omega.{arith}
use Rattle.turns.proofs.repeat_turn.Goals as goal

pub returns-then-n-eq0 : goal.returns-then-n-eq0
returns-then-n-eq0 c = let pre = c.requires in
    repeat_ends pre.0 pre.1 c.if-n-eq0.true c.drop_frame.ensures.moves_frames

pub returns-in_err-has_slot : goal.returns-in_err-has_slot
returns-in_err-has_slot c =
    let pre = c.requires in
    let p = err_from_is_err_and c.from_residual.result c.from_residual.ensures.1 in
    rw (p.1, p.2, c.in_err-has_slot.ensures.1) (repeat_full pre.0 pre.1 c.if-n-eq0.false c.in_err-has_slot.ensures.0)

pub pend_body-requires : goal.pend_body-requires
pend_body-requires c = let pre = c.requires in
    (search rules, omega (arith, c.in_ok-has_slot.ensures, c.reset_top.auto.exec), repeat_stands pre.0 pre.1 c.reset_top.ensures.resets pre.2)

pub shape_of-exec : goal.shape_of-exec
shape_of-exec c = c.pend_body.auto.exec ∙ c.reset_top.auto.exec

pub shape_of-cells : goal.shape_of-cells
shape_of-cells c = c.pend_body.auto.cells

pub returns : goal.returns
returns c = let pre = c.requires in
    repeat_goes pre.0 pre.1 c.if-n-eq0.false c.reset_top.ensures.resets c.pend_body.ensures.moves_frames (c.pend_body.auto.exec ∙ c.reset_top.auto.exec)
