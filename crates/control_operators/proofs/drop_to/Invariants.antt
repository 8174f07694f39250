-- `control_operators::drop_to` meets its contract: each turn of the loop takes the topmost slot away.
-- Assumes nothing.
use Rattle.control_operators.proofs.Leaving.{Cutting}
use Rattle.control_operators.proofs.drop_to.Given as goal

abbrev pub invariant-loop : goal.invariant-loop
invariant-loop l = Cutting l.initial.r.frames l.initial.r l.r l.exec l.initial.cells l.cells l.k l.counter
