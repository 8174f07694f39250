-- `turns::push_top` meets its contract: by its tag the pending value is one that the definition pushes.
-- Assumes nothing.
use native.Mathlib.Omega.{arith}
use Rattle.std.proofs.lemmas.Result.{err_from_is_err_and}
use Rattle.turns.proofs.Procedures.{literal_over, literal_pushed}
use Rattle.turns.proofs.push_top.Goals as goal

pub returns-in_err-has_room : goal.returns-in_err-has_room
returns-in_err-has_room c =
    let pre = c.requires in
    let p = err_from_is_err_and c.from_residual.result c.from_residual.ensures.1 in
    rw (p.1, p.2, c.in_err-has_room.ensures.1) (literal_over pre.0 pre.1 pre.2 pre.3 (omega (arith, c.in_err-has_room.ensures.0)))

pub returns : goal.returns
returns c = let pre = c.requires in
    literal_pushed pre.0 pre.1 pre.2 pre.3 c.push_pending.ensures.moves_items c.push_pending.auto.stack
