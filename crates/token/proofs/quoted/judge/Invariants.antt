-- `token::quoted::judge` meets its contract. The loop's invariant: up to i the string gave `size` bytes, and it goes on there.
-- Assumes nothing.
use Prim.Native.Nat.{◌-◌}
use lib.ListN.{length}
use Rattle.token.proofs.Escapes.{Judging}
use Rattle.token.proofs.quoted.judge.Given as goal

abbrev pub invariant-loop-next : goal.invariant-loop-next
invariant-loop-next l = Judging l.script l.at l.i l.size

abbrev pub decreases-loop-next : goal.decreases-loop-next
decreases-loop-next l = length l.script - l.i
