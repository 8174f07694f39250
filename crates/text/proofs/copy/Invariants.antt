-- `text::copy` meets its contract. The loop's invariant: the first i bytes of the text are written, and the buffer is as long as it was.
-- Assumes nothing.
use Rattle.std.proofs.Common.{◌≡◌, ◌+◌, ◌≤◌, length, take}
use Rattle.text.specs.Writing.{Written}
use Rattle.text.proofs.copy.Given as goal

abbrev pub invariant-loop-i : goal.invariant-loop-i
invariant-loop-i l = record { low : l.i ≤ length l.text; written : Written l.at (take l.i l.text) l.initial.out l.out (l.at + l.i); same_length : length l.out ≡ length l.initial.out }
