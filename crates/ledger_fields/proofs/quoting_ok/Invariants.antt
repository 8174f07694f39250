-- `quoting_ok` meets its contract. The loop's invariant: the quoting from `at` on, in the mode there, decides.
-- Assumes nothing.
use Prim.Native.Nat.{◌-◌}
use lib.ListN.{length}
use Rattle.ledger_fields.proofs.Passing.{Passing}
use Rattle.ledger_fields.proofs.quoting_ok.Given as goal

abbrev pub invariant-loop-mode : goal.invariant-loop-mode
invariant-loop-mode l = Passing l.text l.start l.at l.mode

abbrev pub decreases-loop-mode : goal.decreases-loop-mode
decreases-loop-mode l = length l.text - l.at
