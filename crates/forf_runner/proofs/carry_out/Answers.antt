-- `forf_runner::carry_out` meets its contract: each way to an answer by its law.
-- Assumes nothing.
use mathlib.Core.Path.{refl}
use Rattle.forf_runner.proofs.Reporting.{writing, carried_out}
use Rattle.forf_runner.proofs.carry_out.Goals as goal

pub run-ended-requires : goal.run-ended-requires
run-ended-requires c = let pre = c.requires in
    record { short = pre.short; fueled = pre.fueled; memory_slots_lem = pre.memory_slots_lem }

pub write-n-requires : goal.write-n-requires
write-n-requires c = let pre = c.requires in
    writing (pre) c.run-ended.ensures c.run-ended.auto.stack

pub returns : goal.returns
returns c = let pre = c.requires in
    carried_out (pre) c.run-ended.ensures c.run-ended.auto.stack refl c.write-n.ensures
