-- `machine::Machine::one_logical` meets its contract: the tag says which kind the operand has, by the laws of logical operands.
-- Assumes nothing.
use Rattle.machine.proofs.Logicals.{negation_under, negation_neither, one_truth}
use Rattle.machine.proofs.Operands.{one_got}
use native.Mathlib.Omega.{arith}
use borrow.Author.Rules.{rules}
use Rattle.machine.proofs.Machine.one_logical.Goals as goal

pub returns-then-n-lt1 : goal.returns-then-n-lt1
returns-then-n-lt1 c = record { fetches_one_logical = record { says = λ e d k l μ R. negation_under R c.if-n-lt1.true }; result_bound = search rules }

pub returns-then-tag-eq-TAG_INTEGER : goal.returns-then-tag-eq-TAG_INTEGER
returns-then-tag-eq-TAG_INTEGER c = record { fetches_one_logical = record { says = λ e d k l μ R. one_got R _ (omega (arith, c.if-n-lt1.false)) c.if-tag-eq-TAG_INTEGER.true }; result_bound = omega (arith, c.if-n-lt1.false) }

pub returns-then-tag-eq-TAG_BOOLEAN : goal.returns-then-tag-eq-TAG_BOOLEAN
returns-then-tag-eq-TAG_BOOLEAN c = record { fetches_one_logical = record { says = λ e d k l μ R. one_truth R _ (omega (arith, c.if-n-lt1.false)) c.if-tag-eq-TAG_BOOLEAN.true }; result_bound = omega (arith, c.if-n-lt1.false) }

pub returns : goal.returns
returns c = record { fetches_one_logical = record { says = λ e d k l μ R. negation_neither R _ (omega (arith, c.if-n-lt1.false)) c.if-tag-eq-TAG_INTEGER.false c.if-tag-eq-TAG_BOOLEAN.false }; result_bound = search rules }
