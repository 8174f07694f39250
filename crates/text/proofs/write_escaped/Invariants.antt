-- `text::write_escaped` meets its contract. The loop's invariant: the text of the bytes so far is written, and the buffer is as long as it was.
-- Assumes nothing.
use Rattle.std.proofs.Common.{◌≡◌, length, take}
use Rattle.semantics.specs.Printing.{escaped}
use Rattle.text.specs.Writing.{Written}
use Rattle.text.proofs.write_escaped.Given as goal

abbrev pub invariant-loop-b : goal.invariant-loop-b
invariant-loop-b g l = record { written : Written l.at (escaped g.E.Escape.text (take l.b-index l.s)) l.initial.out l.out l.next; same_length : length l.out ≡ length l.initial.out }
