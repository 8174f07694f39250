-- `bind_elements` meets its contract: the loop keeps `Bindings`, that the elements before q are bound and the others as they were.
-- Assumes nothing.
use Rattle.dictionary_operators.proofs.Loops.{Bindings}
use Rattle.dictionary_operators.proofs.bind_elements.Given as goal

abbrev pub invariant-loop-q : goal.invariant-loop-q
invariant-loop-q l = Bindings l.initial.r l.stack l.dict l.initial.cells l.cells l.n l.r l.q
