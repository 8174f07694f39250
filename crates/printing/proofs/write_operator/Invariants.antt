-- `write_operator` meets its contract: the first j bytes of the name are written.
-- Assumes nothing.
use Rattle.printing.proofs.Spelling.{TitleText}
use Prim.Native.Nat.{◌≤◌}
use Rattle.printing.proofs.write_operator.Given as goal

abbrev pub invariant-loop-j : goal.invariant-loop-j
invariant-loop-j l = (l.j ≤ l.n) × TitleText l.slot l.dict l.j l.start l.initial.log l.log
