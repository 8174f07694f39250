-- `stack_operators::double` meets its contract: the loop keeps `Doubling`, the copies made so far.
-- Assumes nothing.
use Rattle.stack_operators.proofs.Doubling.{Doubling}
use Rattle.stack_operators.proofs.double.Given as goal

abbrev pub invariant-loop : goal.invariant-loop
invariant-loop l = Doubling l.n l.initial.r l.initial.stack l.initial.cells l.r l.stack l.cells l.counter
