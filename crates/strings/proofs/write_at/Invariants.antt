-- `write_at` meets its contract: the loop keeps `Writing`, that the first q bytes stand in front.
-- Assumes nothing.
use Rattle.strings.proofs.Writing.{Writing}
use Rattle.strings.proofs.write_at.Given as goal

abbrev pub invariant-loop-q : goal.invariant-loop-q
invariant-loop-q l = Writing l.h l.contents l.initial.cells l.cells l.q
