-- `take_group` meets its contract: the group's fault, or what taking the judged group comes to.
-- Assumes nothing.
use Rattle.std.proofs.lemmas.Result.{err_from_is_err_and}
use native.Mathlib.Omega.{arith}
use Rattle.group_taking.proofs.Rooming.{group_fault}
use Rattle.group_taking.proofs.take_group.Goals as goal

pub judge-requires : goal.judge-requires
judge-requires c = (c.requires.0, c.requires.1, omega (arith, c.requires.2))

pub returns-in_err-judged : goal.returns-in_err-judged
returns-in_err-judged c =
    let p = err_from_is_err_and c.from_residual.result c.from_residual.ensures.1 in
    rw (p.1, p.2) (group_fault c.in_err-judged.ensures c.requires.0)

pub take_judged-requires : goal.take_judged-requires
take_judged-requires c = record { opened = c.requires; judged = c.in_ok-judged.ensures }

pub returns-in-Ok : goal.returns-in-Ok
returns-in-Ok c = c.in-Ok.ensures

pub returns-in-Err : goal.returns-in-Err
returns-in-Err c = c.in-Err.ensures
