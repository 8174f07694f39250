-- `stack_operators::reverse` meets its contract: the loop keeps `Turning`, by which what is left to reverse gives what was asked.
-- Assumes nothing.
use Rattle.stack_operators.proofs.Reversing.{Turning}
use Rattle.stack_operators.proofs.reverse.Given as goal

abbrev pub invariant-loop-k : goal.invariant-loop-k
invariant-loop-k l = Turning l.initial.stack l.lo l.hi l.initial.r l.stack l.r l.k
