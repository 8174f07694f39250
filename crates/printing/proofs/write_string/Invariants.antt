-- `write_string` meets its contract: after the quote the text of the first q current bytes is written.
-- Assumes nothing.
use Rattle.printing.proofs.Bytes.{StringText}
use Prim.Native.Nat.{◌+◌}
use Rattle.printing.proofs.write_string.Given as goal

abbrev pub invariant-loop-q : goal.invariant-loop-q
invariant-loop-q l = StringText l.cells l.h l.q (l.at + 1) l.initial.log l.log l.next
