-- `forf_machine::fetch` meets its contract: each way to an answer by its law.
-- Assumes nothing.
use mathlib.Core.List.{[]}
use native.Mathlib.Omega.{arith}
use Rattle.std.proofs.lemmas.Result.{err_from_is_err_and}
use Rattle.forf_machine.proofs.Operating.{mget_shape, one_fails, one_undone, one_depth, one_done, recalled_yes, recalled_no}
use Rattle.forf_machine.proofs.fetch.Goals as goal

pub returns-in_err-a : goal.returns-in_err-a
returns-in_err-a c = λ e. let p = err_from_is_err_and c.from_residual.result c.from_residual.ensures.1 in
    rw (p.1, p.2) (one_fails mget_shape _ _ c.one_int.result c.one_int.ensures e _ c.in_err-a.was)

pub returns-then-a-ge-MEMORY_SLOTS : goal.returns-then-a-ge-MEMORY_SLOTS
returns-then-a-ge-MEMORY_SLOTS c = λ e. one_undone mget_shape _ _ c.one_int.result c.one_int.ensures e _ c.in_ok-a.was (recalled_no _ _ c.if-a-ge-MEMORY_SLOTS.true)

pub overflow_sub-m : goal.overflow_sub-m
overflow_sub-m c = one_depth mget_shape c.args.m c.args.stack.now c.one_int.result c.one_int.ensures [] [] c.in_ok-a.was

pub put-requires : goal.put-requires
put-requires c = let d = one_depth mget_shape c.args.m c.args.stack.now c.one_int.result c.one_int.ensures [] [] c.in_ok-a.was in
    omega (arith, c.requires.0)

pub returns : goal.returns
returns c = λ e. one_done mget_shape _ _ c.one_int.result c.one_int.ensures e _ c.in_ok-a.was (recalled_yes _ _ c.if-a-ge-MEMORY_SLOTS.false) c.put.ensures c.put.auto.words
