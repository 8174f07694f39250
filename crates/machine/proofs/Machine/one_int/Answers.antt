-- `machine::Machine::one_int` meets its contract: what the words are tested for is what the definition looks for, by the laws of operands.
-- Assumes nothing.
use Rattle.machine.proofs.Operands.{one_under, one_bad, one_got}
use native.Mathlib.Omega.{arith}
use borrow.Author.Rules.{rules}
use Rattle.machine.proofs.Machine.one_int.Goals as goal

pub returns-then-n-lt1 : goal.returns-then-n-lt1
returns-then-n-lt1 c = record { fetches_one = record { says = λ e d k l μ R. one_under R c.if-n-lt1.true }; result_bound = search rules }

pub returns-then-stack-i-ne-TAG_INTEGER : goal.returns-then-stack-i-ne-TAG_INTEGER
returns-then-stack-i-ne-TAG_INTEGER c = record { fetches_one = record { says = λ e d k l μ R. one_bad R _ (omega (arith, c.if-n-lt1.false)) c.if-stack-i-ne-TAG_INTEGER.true }; result_bound = search rules }

pub returns : goal.returns
returns c = record { fetches_one = record { says = λ e d k l μ R. one_got R _ (omega (arith, c.if-n-lt1.false)) c.if-stack-i-ne-TAG_INTEGER.false }; result_bound = search rules }
