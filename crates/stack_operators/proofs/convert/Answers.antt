-- `stack_operators::convert` meets its contract: the test of depth decides between stackunderflow and what `retag` does.
-- Assumes nothing.
use native.Mathlib.Omega.{arith}
use Prim.Native.Nat.{◌-◌}
use Rattle.stack_operators.proofs.Scalars.{convert_under, convert_done}
use Rattle.std.proofs.lemmas.Result.{err_from_is_err_and}
use Rattle.stack_operators.proofs.convert.Goals as goal

pub returns-in_err-needs : goal.returns-in_err-needs
returns-in_err-needs c =
    let p = err_from_is_err_and c.from_residual.result c.from_residual.ensures.1 in
    rw (p.1, p.2, c.in_err-needs.ensures.1) (convert_under c.args.executable c.in_err-needs.ensures.0)

pub returns : goal.returns
returns c = convert_done c.args.executable (c.args.m.depth - 1) (omega (arith, c.in_ok-needs.ensures)) c.retag.ensures.moves_stack
