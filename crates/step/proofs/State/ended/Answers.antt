-- `ended` meets its contract: by whether it was done or failed.
-- Assumes nothing.
use Rattle.step.specs.Stepping.{ended_by}
use mathlib.Core.Path.{sym, ap}
use native.Mathlib.Omega.{arith}
use Rattle.step.proofs.State.ended.Goals as goal

pub overflow_add-result : goal.overflow_add-result
overflow_add-result c = omega (arith, c.requires)

pub overflow_add-result-in-Err : goal.overflow_add-result-in-Err
overflow_add-result-in-Err c = omega (arith, c.requires)

pub returns-in-Ok : goal.returns-in-Ok
returns-in-Ok c = sym (ap (ended_by c.args.self c.args.at c.args.next c.args.command) c.in-Ok.is)

pub returns-in-Err : goal.returns-in-Err
returns-in-Err c = sym (ap (ended_by c.args.self c.args.at c.args.next c.args.command) c.in-Err.is)
