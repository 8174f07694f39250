-- `token::quoted::judge` meets its contract. The loop's invariant: up to i the string gave `size` bytes, and it goes on there.
-- Assumes nothing.
use Rattle.token.proofs.Escapes.{judging_starts, judging_byte, judging_closed, judging_fault}
use Rattle.std.proofs.lemmas.Result.{err_from_is_err_and}
use Rattle.token.proofs.quoted.judge.Goals as goal

pub loop-next-init : goal.loop-next-init
loop-next-init c = judging_starts _ _ c.requires

pub returns-in_err-next : goal.returns-in_err-next
returns-in_err-next c = let p = err_from_is_err_and c.from_residual.result c.from_residual.ensures.1 in rw (p.1, p.2) (judging_fault c.loop-next.invariant _ c.in_err-next.ensures)

pub loop-next-preserved : goal.loop-next-preserved
loop-next-preserved c = judging_byte c.loop-next.invariant (rw c.in-Byte.is at c.in_ok-next.ensures)

pub returns-in-Closed : goal.returns-in-Closed
returns-in-Closed c = judging_closed c.loop-next.invariant (rw c.in-Closed.is at c.in_ok-next.ensures)
