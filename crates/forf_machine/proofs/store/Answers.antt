-- `forf_machine::store` meets its contract: each way to an answer by its law.
-- Assumes nothing.
use mathlib.Core.List.{[]}
use mathlib.Core.Path.{refl}
use Rattle.std.proofs.lemmas.Result.{err_from_is_err_and}
use Rattle.forf_machine.proofs.Operating.{mset_fails, mset_outside, mset_done, two_depth}
use Rattle.forf_machine.proofs.store.Goals as goal

pub returns-in_err-b : goal.returns-in_err-b
returns-in_err-b c = λ e. let p = err_from_is_err_and c.from_residual.result c.from_residual.ensures.1 in
    rw (p.1, p.2) (mset_fails _ _ c.two_ints.result c.two_ints.ensures e _ c.in_err-b.was)

pub returns-then-a-ge-MEMORY_SLOTS : goal.returns-then-a-ge-MEMORY_SLOTS
returns-then-a-ge-MEMORY_SLOTS c = λ e. mset_outside _ _ c.two_ints.result c.two_ints.ensures e _ c.in_ok-b.was c.if-a-ge-MEMORY_SLOTS.true

pub overflow_sub-m : goal.overflow_sub-m
overflow_sub-m c = two_depth c.args.m c.args.stack.now c.two_ints.result c.two_ints.ensures [] [] c.in_ok-b.was

pub returns : goal.returns
returns c = λ e. mset_done _ _ c.two_ints.result c.two_ints.ensures e _ _ c.in_ok-b.was c.if-a-ge-MEMORY_SLOTS.false refl c.with_depth.ensures
