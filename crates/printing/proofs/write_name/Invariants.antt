-- `write_name` meets its contract: the text of the first j bytes is written.
-- Assumes nothing.
use Rattle.printing.proofs.Spelling.{NameText}
use Rattle.printing.proofs.write_name.Given as goal

abbrev pub invariant-loop-j : goal.invariant-loop-j
invariant-loop-j l = NameText l.slot l.dict l.j l.at l.initial.log l.log l.next
