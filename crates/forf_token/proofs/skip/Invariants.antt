-- `forf_token::skip` meets its contract. The loop's invariant: the answer is i and the blanks from there on.
-- Assumes nothing.
use Rattle.forf_semantics.specs.Tokens.{blanks}
use lib.ListN.{length, drop}
use Prim.Native.Nat.{◌+◌, ◌-◌, ◌≤◌}
use mathlib.Core.Path.{◌≡◌}
use Rattle.forf_token.proofs.skip.Given as goal

abbrev pub invariant-loop-after : goal.invariant-loop-after
invariant-loop-after l = (l.i ≤ length l.script) × (l.at + blanks (drop l.at l.script) ≡ l.i + blanks (drop l.i l.script))

abbrev pub decreases-loop-after : goal.decreases-loop-after
decreases-loop-after l = length l.script - l.i
