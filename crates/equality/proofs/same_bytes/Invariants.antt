-- `same_bytes` meets its contract: the loop keeps `Agreed`, that the strings are the same where they are from byte q on. The measure is what is left of the maximum.
-- Assumes nothing.
use Rattle.equality.proofs.Comparisons.{Agreed}
use Rattle.equality.proofs.same_bytes.Given as goal

abbrev pub invariant-loop-q : goal.invariant-loop-q
invariant-loop-q l = Agreed l.m l.stack l.cells l.q
