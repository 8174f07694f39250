-- `forf_machine::one_to_one` meets its contract: an integer or what is wrong with it, and what the function that is given makes of it.
-- Assumes nothing.
use mathlib.Core.List.{[]}
use mathlib.Core.Path.{ap, sym}
use native.Mathlib.Omega.{arith}
use Rattle.std.proofs.Common.{rules}
use Rattle.std.proofs.lemmas.Result.{err_from_is_err_and}
use Rattle.semantics.specs.Values.{ok}
use Rattle.forf_machine.proofs.Operating.{unary_shape, one_fails, one_depth, one_done}
use Rattle.forf_machine.proofs.one_to_one.Goals as goal

pub returns-in_err-a : goal.returns-in_err-a
returns-in_err-a g c = let p = err_from_is_err_and c.from_residual.result c.from_residual.ensures.1 in
    rw (p.1, p.2) (record { does = λ f h e mem. one_fails (unary_shape f) _ _ c.one_int.result c.one_int.ensures e mem c.in_err-a.was })

pub overflow_sub-m : goal.overflow_sub-m
overflow_sub-m g c = one_depth (unary_shape (λ a. a)) c.args.m c.args.stack.now c.one_int.result c.one_int.ensures [] [] c.in_ok-a.was

pub put-requires : goal.put-requires
put-requires g c = let d = one_depth (unary_shape (λ a. a)) c.args.m c.args.stack.now c.one_int.result c.one_int.ensures [] [] c.in_ok-a.was in
    omega (arith, c.requires.deep)

pub returns : goal.returns
returns g c = record {
  does = λ f h e mem. one_done (unary_shape f) _ _ c.one_int.result c.one_int.ensures e mem c.in_ok-a.was (ap ok (sym (h _ _ (search rules) c.f.ensures))) c.put.ensures c.put.auto.words;
}
