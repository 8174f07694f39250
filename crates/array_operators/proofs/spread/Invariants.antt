-- `spread` meets its contract: the loop keeps `Spread`, the elements below the array so far.
-- Assumes nothing.
use Rattle.array_operators.proofs.Spreading.{Spread}
use Rattle.array_operators.proofs.spread.Given as goal

abbrev pub invariant-loop-q : goal.invariant-loop-q
invariant-loop-q l = Spread l.n l.initial.r l.initial.stack l.initial.cells l.r l.stack l.cells l.q
