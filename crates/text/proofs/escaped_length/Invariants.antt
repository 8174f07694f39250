-- `text::escaped_length` meets its contract. The loop's invariant: the sum is the length of the text of the bytes so far.
-- Assumes nothing.
use Rattle.std.proofs.Common.{◌≡◌, length, take}
use Rattle.semantics.specs.Printing.{escaped}
use Rattle.text.proofs.escaped_length.Given as goal

abbrev pub invariant-loop-b : goal.invariant-loop-b
invariant-loop-b g l = l.sum ≡ length (escaped g.E.Escape.text (take l.b-index l.s))
