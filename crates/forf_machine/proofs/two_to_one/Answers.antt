-- `forf_machine::two_to_one` meets its contract: two integers or what is wrong with them, and what the function that is given makes of them.
-- Assumes nothing.
use mathlib.Core.List.{[]}
use mathlib.Core.Path.{◌≡◌, refl, ap, sym, ◌∙◌}
use Prim.Native.Nat.{ℕ}
use native.Mathlib.Omega.{arith}
use Rattle.std.proofs.Common.{rules}
use Rattle.std.specs.Prelude.{Option, Some, None, ok_or}
use Rattle.std.proofs.lemmas.Result.{err_from_is_err_and}
use Rattle.forf_semantics.specs.declared.Error.TheVariants.{UndefinedResult}
use Rattle.forf_machine.specs.Operands.{result_of}
use Rattle.forf_machine.specs.Numbers.{quotient_is}
use Rattle.forf_machine.proofs.Operating.{two_fails, two_undone, two_depth, two_done}
use Rattle.forf_machine.proofs.two_to_one.Goals as goal

-- none is an undefined result
as_result : (o : Option ℕ) → result_of (ok_or o UndefinedResult) ≡ quotient_is o
as_result (Some w) = refl
as_result None = refl

pub returns-in_err-b : goal.returns-in_err-b
returns-in_err-b g c = let p = err_from_is_err_and c.from_residual.result c.from_residual.ensures.1 in
    rw (p.1, p.2) (record { does = λ f q shape h e mem. two_fails _ _ c.two_ints.result c.two_ints.ensures e mem shape c.in_err-b.was })

pub returns-in_err-w : goal.returns-in_err-w
returns-in_err-w g c = let p = err_from_is_err_and c.from_residual-in_err-w.result c.from_residual-in_err-w.ensures.1 in
    rw (p.1, p.2) (record {
      does = λ f q shape h e mem. two_undone _ _ c.two_ints.result c.two_ints.ensures e mem shape c.in_ok-b.was
          (sym (h _ _ c.f.result (search rules) (search rules) c.f.ensures) ∙ sym (as_result _) ∙ ap result_of (sym c.ok_or.ensures.value ∙ c.in_err-w.was));
    })

pub overflow_sub-m : goal.overflow_sub-m
overflow_sub-m g c = two_depth c.args.m c.args.stack.now c.two_ints.result c.two_ints.ensures [] [] c.in_ok-b.was

pub put-requires : goal.put-requires
put-requires g c = let d = two_depth c.args.m c.args.stack.now c.two_ints.result c.two_ints.ensures [] [] c.in_ok-b.was in
    omega (arith, c.requires.deep)

pub overflow_sub-m-2 : goal.overflow_sub-m-2
overflow_sub-m-2 g c = let d = two_depth c.args.m c.args.stack.now c.two_ints.result c.two_ints.ensures [] [] c.in_ok-b.was in
    omega arith

pub returns : goal.returns
returns g c = record {
  does = λ f q shape h e mem. two_done _ _ c.two_ints.result c.two_ints.ensures e mem shape _ c.in_ok-b.was
      (sym (h _ _ c.f.result (search rules) (search rules) c.f.ensures) ∙ sym (as_result _) ∙ ap result_of (sym c.ok_or.ensures.value ∙ c.in_ok-w.was)) c.put.ensures c.put.auto.words c.with_depth.ensures;
}
