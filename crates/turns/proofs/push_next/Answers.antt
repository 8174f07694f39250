-- `turns::push_next` meets its contract: the element's cell has its words, by its tag it is pushed, and the slot goes on.
-- Assumes nothing.
use native.Mathlib.Omega.{arith}
use Rattle.std.proofs.lemmas.Result.{err_from_is_err_and}
use Rattle.turns.proofs.Procedures.{next_stands, next_over, next_pushed}
use Rattle.turns.proofs.push_next.Goals as goal

pub returns-in_err-has_room : goal.returns-in_err-has_room
returns-in_err-has_room c =
    let pre = c.requires in
    let p = err_from_is_err_and c.from_residual.result c.from_residual.ensures.1 in
    rw (p.1, p.2, c.in_err-has_room.ensures.1) (next_over pre.0 pre.1 pre.2 pre.3 (omega (arith, c.in_err-has_room.ensures.0)))

pub advance-requires : goal.advance-requires
advance-requires c = let pre = c.requires in
    next_stands pre.0 pre.1 pre.2 c.push_element-r.ensures.pushes_element c.push_element-r.ensures.depth_value.1 pre.4

pub returns : goal.returns
returns c = let pre = c.requires in
    next_pushed pre.0 pre.1 pre.2 pre.3 c.push_element-r.ensures.pushes_element c.advance.ensures.advances c.push_element-r.auto.stack c.advance.auto.exec
