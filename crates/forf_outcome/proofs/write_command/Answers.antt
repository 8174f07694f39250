-- `forf_outcome::write_command` meets its contract: each way to an answer by its law.
-- Assumes nothing.
use Rattle.forf_outcome.proofs.Lining.{name_room, name_inside, name_written, no_command}
use native.Mathlib.Omega.{arith}
use Rattle.forf_outcome.proofs.write_command.Goals as goal

pub overflow_add-start : goal.overflow_add-start
overflow_add-start c = let args = c.args in
    let pre = c.requires in
    omega (arith, name_inside args.script.now args.command c.in-Some.is pre.0, c.well_formed)

pub write_name-requires : goal.write_name-requires
write_name-requires c = let args = c.args in
    let pre = c.requires in
    name_room args.script.now args.command args.at args.out.now c.in-Some.is pre.0 pre.1

pub returns-in-None : goal.returns-in-None
returns-in-None c = no_command _ c.in-None.is

pub returns-in-Some : goal.returns-in-Some
returns-in-Some c = name_written _ c.in-Some.is c.write_name.ensures
