-- `resume` meets its contract: the topmost slot acts; where that fails, its command is still there.
-- Assumes nothing.
use Rattle.step.proofs.FrameSteps.{command_there, acted, failing}
use Rattle.step.proofs.State.resume.Goals as goal

pub act-requires : goal.act-requires
act-requires c = (c.requires.0, c.requires.1.1.machine)

pub ended-requires : goal.ended-requires
ended-requires c = c.requires.1.1.few

pub command-failed-requires : goal.command-failed-requires
command-failed-requires c = let pre = c.requires in
    (pre.0, command_there c.in-Err.is c.act.ensures pre.1.1.machine.0 pre.1.1.machine.1)

pub ended-requires-in-Err : goal.ended-requires-in-Err
ended-requires-in-Err c = c.requires.1.1.few

pub returns-in-Ok : goal.returns-in-Ok
returns-in-Ok c = let pre = c.requires in
    record { tries = λ script inside within. acted pre.0 inside within c.act.ensures c.in-Ok.is c.ended.ensures }

pub returns-in-Err : goal.returns-in-Err
returns-in-Err c = let pre = c.requires in
    record { tries = λ script inside within. failing pre.0 inside within c.act.ensures c.in-Err.is pre.1.1.machine.0 pre.1.1.machine.1 c.command-failed.ensures c.ended-in-Err.ensures }
