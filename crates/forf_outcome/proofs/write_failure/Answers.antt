-- `forf_outcome::write_failure` meets its contract: each way to an answer by its law.
-- Assumes nothing.
use Rattle.forf_outcome.proofs.Lining.{error_room, key_room, command_room, last_room, failure_written}
use Rattle.text.proofs.Pasting.{respelt}
use Rattle.forf_semantics.proofs.OutcomeLaws.{error_length}
use mathlib.Core.Path.{sym, ap}
use lib.ListN.{length}
use Rattle.semantics.specs.Text.{bytes}
use native.Mathlib.Omega.{arith}
use Rattle.forf_outcome.proofs.write_failure.Goals as goal

pub copy-middle-requires : goal.copy-middle-requires
unfolding bytes
copy-middle-requires c = let pre = c.requires in
    omega (arith, error_room pre.1 c.copy-start.ensures c.copy-start.auto.out, error_length c.args.error, ap length c.name_of.ensures)

pub copy-name-requires : goal.copy-name-requires
unfolding bytes
copy-name-requires c = let pre = c.requires in
    key_room pre.1 c.copy-start.ensures c.copy-start.auto.out _ (respelt (sym c.name_of.ensures) c.copy-middle.ensures) c.copy-middle.auto.out

pub write_command-after-requires : goal.write_command-after-requires
unfolding bytes
write_command-after-requires c = let pre = c.requires in
    (pre.0, command_room pre.1 c.copy-start.ensures c.copy-start.auto.out _ (respelt (sym c.name_of.ensures) c.copy-middle.ensures) c.copy-middle.auto.out c.copy-name.ensures c.copy-name.auto.out)

pub bounds-out-after : goal.bounds-out-after
unfolding bytes
bounds-out-after c = let pre = c.requires in
    let args = c.args in
    last_room pre.1 c.copy-start.ensures c.copy-start.auto.out _ (respelt (sym c.name_of.ensures) c.copy-middle.ensures) c.copy-middle.auto.out c.copy-name.ensures c.copy-name.auto.out args.script.now args.command pre.0 c.write_command-after.ensures c.write_command-after.auto.out

pub overflow_add-result : goal.overflow_add-result
unfolding bytes
overflow_add-result c = let pre = c.requires in
    let args = c.args in
    omega (arith, last_room pre.1 c.copy-start.ensures c.copy-start.auto.out _ (respelt (sym c.name_of.ensures) c.copy-middle.ensures) c.copy-middle.auto.out c.copy-name.ensures c.copy-name.auto.out args.script.now args.command pre.0 c.write_command-after.ensures c.write_command-after.auto.out, c.write_command-after.auto.out, c.copy-name.auto.out, c.copy-middle.auto.out, c.copy-start.auto.out, c.well_formed)

pub returns : goal.returns
unfolding bytes
returns c = let pre = c.requires in
    let args = c.args in
    failure_written pre.1 c.copy-start.ensures c.copy-start.auto.out _ (respelt (sym c.name_of.ensures) c.copy-middle.ensures) c.copy-middle.auto.out c.copy-name.ensures c.copy-name.auto.out args.script.now args.command pre.0 c.write_command-after.ensures c.write_command-after.auto.out
