-- `turns::loop_turn` meets its contract: the body that becomes pending is that of the slot, by what `loop` does in the definition.
-- Assumes nothing.
use Rattle.std.proofs.lemmas.Result.{err_from_is_err_and}
use Rattle.turns.proofs.Looping.{loop_full, loop_goes}
use Rattle.turns.proofs.loop_turn.Goals as goal

pub returns-in_err-has_slot : goal.returns-in_err-has_slot
returns-in_err-has_slot c =
    let pre = c.requires in
    let p = err_from_is_err_and c.from_residual.result c.from_residual.ensures.1 in
    rw (p.1, p.2, c.in_err-has_slot.ensures.1) (loop_full pre.0 pre.1 c.in_err-has_slot.ensures.0)

pub returns : goal.returns
returns c = let pre = c.requires in
    loop_goes pre.0 pre.1 c.pend_body.ensures.moves_frames c.pend_body.auto.exec
