-- `machine::Machine::two_logical` meets its contract: operands of different tags are not of one kind, and the tag of two equal ones says which.
-- Assumes nothing.
use Rattle.machine.proofs.Logicals.{connective_under, connective_apart, connective_neither, two_truths}
use Rattle.machine.proofs.Operands.{two_got}
use Prim.Native.Nat.{◌-◌}
use native.Mathlib.Omega.{arith}
use borrow.Author.Rules.{rules}
use Rattle.machine.proofs.Machine.two_logical.Goals as goal

pub returns-then-n-lt2 : goal.returns-then-n-lt2
returns-then-n-lt2 c = record { fetches_two_logical = record { says = λ e d k l μ R. connective_under R c.if-n-lt2.true }; result_bound = search rules }

pub returns-then-stack-j : goal.returns-then-stack-j
returns-then-stack-j c = record { fetches_two_logical = record { says = λ e d k l μ R. connective_apart R _ _ (omega (arith, c.if-n-lt2.false)) (omega (arith, c.if-n-lt2.false)) c.if-stack-j.true }; result_bound = search rules }

pub returns-then-tag-eq-TAG_INTEGER : goal.returns-then-tag-eq-TAG_INTEGER
returns-then-tag-eq-TAG_INTEGER c = record { fetches_two_logical = record { says = λ e d k l μ R. two_got R _ _ (omega (arith, c.if-n-lt2.false)) (omega (arith, c.if-n-lt2.false)) c.if-tag-eq-TAG_INTEGER.true (omega arith) }; result_bound = omega (arith, c.if-n-lt2.false) }

pub returns-then-tag-eq-TAG_BOOLEAN : goal.returns-then-tag-eq-TAG_BOOLEAN
returns-then-tag-eq-TAG_BOOLEAN c = record { fetches_two_logical = record { says = λ e d k l μ R. two_truths R _ _ (omega (arith, c.if-n-lt2.false)) (omega (arith, c.if-n-lt2.false)) c.if-tag-eq-TAG_BOOLEAN.true (omega arith) }; result_bound = omega (arith, c.if-n-lt2.false) }

pub returns : goal.returns
returns c = record { fetches_two_logical = record { says = λ e d k l μ R. connective_neither R _ (c.args.self.depth - 1) (omega (arith, c.if-n-lt2.false)) (omega (arith, c.if-n-lt2.false)) c.if-tag-eq-TAG_INTEGER.false c.if-tag-eq-TAG_BOOLEAN.false }; result_bound = search rules }
