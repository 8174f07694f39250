-- `control_operators::find_loop` meets its contract: the loop keeps that no slot that it has passed is a loop's.
-- Assumes nothing.
use Rattle.control_operators.proofs.Leaving.{Passed}
use Rattle.control_operators.proofs.find_loop.Given as goal

abbrev pub invariant-loop-k : goal.invariant-loop-k
invariant-loop-k l = Passed l.exec l.fn.m.frames l.k
