-- `token::numbers::numeral_at` meets its contract. The loop's invariant: the digits left, with n for those before, give the same answer.
-- Assumes nothing.
use mathlib.Core.Path.{◌≡◌}
use Prim.Native.Nat.{◌+◌}
use lib.ListN.{drop}
use Rattle.token.specs.Numbers.{numeral}
use Rattle.token.proofs.Digits.{judged}
use Rattle.token.proofs.numbers.numeral_at.Given as goal

abbrev pub invariant-loop-i : goal.invariant-loop-i
invariant-loop-i l = numeral l.base l.limit (l.start + l.at) (drop l.at l.s) ≡ judged l.base l.limit (l.start + l.i) l.n (drop l.i l.s)
