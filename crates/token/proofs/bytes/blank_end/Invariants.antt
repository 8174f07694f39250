-- `token::bytes::blank_end` meets its contract. The loop's invariant: the answer is i and the blanks from there on, in or out of a comment.
-- Assumes nothing.
use mathlib.Core.Path.{◌≡◌}
use Prim.Native.Nat.{◌+◌}
use lib.ListN.{drop}
use Rattle.semantics.specs.Tokens.{blanks, blanks_in}
use Rattle.token.proofs.bytes.blank_end.Given as goal

abbrev pub invariant-loop-i : goal.invariant-loop-i
invariant-loop-i l = l.at + blanks (drop l.at l.script) ≡ l.i + blanks_in l.comment (drop l.i l.script)
