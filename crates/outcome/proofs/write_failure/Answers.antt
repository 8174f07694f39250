-- `write_failure` meets its contract: the error's name and the command stand between three texts (`failure_written`).
-- Assumes nothing.
use mathlib.Core.Path.{◌∙◌}
use lib.ListN.{length-set}
use native.Mathlib.Omega.{arith}
use Rattle.semantics.specs.Text.{bytes}
use Rattle.outcome.proofs.Commands.{error_room, key_room, command_room, after_few, last_room, failure_written}
use Rattle.outcome.proofs.write_failure.Goals as goal

pub copy-start-requires : goal.copy-start-requires
copy-start-requires c = omega (arith, c.requires.fits)

pub write_error-middle-requires : goal.write_error-middle-requires
unfolding bytes
write_error-middle-requires c = error_room c.requires c.copy-start.ensures c.copy-start.auto.out

pub copy-name-requires : goal.copy-name-requires
unfolding bytes
copy-name-requires c = key_room c.requires c.copy-start.ensures c.copy-start.auto.out c.args.error c.write_error-middle.ensures c.write_error-middle.auto.out

pub write_command-after-requires : goal.write_command-after-requires
unfolding bytes
write_command-after-requires c = command_room c.requires c.copy-start.ensures c.copy-start.auto.out c.args.error c.write_error-middle.ensures c.write_error-middle.auto.out c.copy-name.ensures c.copy-name.auto.out

pub bounds-out-after : goal.bounds-out-after
unfolding bytes
bounds-out-after c = last_room c.requires c.copy-start.ensures c.copy-start.auto.out c.args.error c.write_error-middle.ensures c.write_error-middle.auto.out c.copy-name.ensures c.copy-name.auto.out c.write_command-after.ensures c.write_command-after.auto.out

pub overflow_add-result : goal.overflow_add-result
unfolding bytes
overflow_add-result c = omega (arith, after_few c.requires c.copy-start.ensures c.copy-start.auto.out c.args.error c.write_error-middle.ensures c.write_error-middle.auto.out c.copy-name.ensures c.copy-name.auto.out c.write_command-after.ensures c.write_command-after.auto.out)

pub shape_of-out : goal.shape_of-out
shape_of-out c = length-set c.write_command-after.new.out c.write_command-after.result 10 ∙ c.write_command-after.auto.out ∙ c.copy-name.auto.out ∙ c.write_error-middle.auto.out ∙ c.copy-start.auto.out

pub returns : goal.returns
unfolding bytes
returns c = failure_written c.requires c.copy-start.ensures c.copy-start.auto.out c.args.error c.write_error-middle.ensures c.write_error-middle.auto.out c.copy-name.ensures c.copy-name.auto.out c.write_command-after.ensures c.write_command-after.auto.out
