-- `commands::command` meets its contract: by the kind of the topmost slot, and by how many elements a procedure has left.
-- Assumes nothing.
use native.Mathlib.Omega.{arith}
use Rattle.frames.proofs.Running.{run_at, cell_room}
use Rattle.commands.proofs.Tops.{pending_says, element_says, ended_says, loop_says}
use Rattle.commands.proofs.command.Goals as goal

pub returns-then-kind-eq-PENDING : goal.returns-then-kind-eq-PENDING
returns-then-kind-eq-PENDING c = pending_says c.requires.0 c.if-kind-eq-PENDING.true c.command_of.ensures

pub returns-then-left-eq0 : goal.returns-then-left-eq0
returns-then-left-eq0 c = ended_says c.requires.0 c.if-kind-eq-RUNNING.true c.if-left-eq0.true

pub get-tag-requires : goal.get-tag-requires
get-tag-requires c = let R = c.requires.1.4 in let x = run_at R _ (omega (arith, c.requires.0)) c.if-kind-eq-RUNNING.true in (omega arith, cell_room R _ (omega (arith, c.requires.0)) x.0 x.1 x.2 (omega (arith, c.if-left-eq0.false)))

pub get-pay-requires : goal.get-pay-requires
get-pay-requires c = let R = c.requires.1.4 in let x = run_at R _ (omega (arith, c.requires.0)) c.if-kind-eq-RUNNING.true in (omega arith, cell_room R _ (omega (arith, c.requires.0)) x.0 x.1 x.2 (omega (arith, c.if-left-eq0.false)))

pub returns-then-kind-eq-RUNNING : goal.returns-then-kind-eq-RUNNING
returns-then-kind-eq-RUNNING c = element_says c.requires.0 c.if-kind-eq-RUNNING.true c.if-left-eq0.false c.get-tag.ensures c.get-pay.ensures c.command_of-then-kind-eq-RUNNING.ensures

pub returns : goal.returns
returns c = loop_says c.requires.0 c.if-kind-eq-PENDING.false c.if-kind-eq-RUNNING.false
