-- `longer` meets its contract: the lower part of the word goes up by one, and SCATTERED stays or comes, by arithmetic on each way out.
-- Assumes nothing.
use mathlib.Core.Logic.{inl, inr}
use native.Mathlib.Omega.{arith}
use Rattle.heap.proofs.longer.Goals as goal

pub returns-then-c-first : goal.returns-then-c-first
returns-then-c-first c = record { more = omega arith; kept = omega arith; side = λ b. (omega arith, inr c.if-c-first.true) }

pub returns-then-w-eq0 : goal.returns-then-w-eq0
returns-then-w-eq0 c = record { more = omega arith; kept = omega arith; side = λ b. (omega arith, inl c.if-w-eq0.true) }

pub returns : goal.returns
returns c = record { more = omega arith; kept = omega arith; side = λ b. absurd (omega arith) }
