-- `machine::Machine::two_ints` meets its contract: the lower operand is looked at first, as the definition does, by the laws of operands.
-- Assumes nothing.
use Prim.Native.Nat.{◌-◌}
use Rattle.machine.proofs.Operands.{two_under, two_first_bad, two_second_bad, two_got}
use native.Mathlib.Omega.{arith}
use borrow.Author.Rules.{rules}
use Rattle.machine.proofs.Machine.two_ints.Goals as goal

pub returns-then-n-lt2 : goal.returns-then-n-lt2
returns-then-n-lt2 c = record { fetches_two = record { says = λ e d k l μ R. two_under R c.if-n-lt2.true }; result_bound = search rules }

pub returns-then-stack-i-ne-TAG_INTEGER : goal.returns-then-stack-i-ne-TAG_INTEGER
returns-then-stack-i-ne-TAG_INTEGER c = record { fetches_two = record { says = λ e d k l μ R. two_first_bad R _ (c.args.self.depth - 1) (omega (arith, c.if-n-lt2.false)) (omega (arith, c.if-n-lt2.false)) c.if-stack-i-ne-TAG_INTEGER.true }; result_bound = search rules }

pub returns-then-stack-j-ne-TAG_INTEGER : goal.returns-then-stack-j-ne-TAG_INTEGER
returns-then-stack-j-ne-TAG_INTEGER c = record { fetches_two = record { says = λ e d k l μ R. two_second_bad R _ _ (omega (arith, c.if-n-lt2.false)) (omega (arith, c.if-n-lt2.false)) c.if-stack-i-ne-TAG_INTEGER.false c.if-stack-j-ne-TAG_INTEGER.true }; result_bound = search rules }

pub returns : goal.returns
returns c = record { fetches_two = record { says = λ e d k l μ R. two_got R _ _ (omega (arith, c.if-n-lt2.false)) (omega (arith, c.if-n-lt2.false)) c.if-stack-i-ne-TAG_INTEGER.false c.if-stack-j-ne-TAG_INTEGER.false }; result_bound = search rules }
