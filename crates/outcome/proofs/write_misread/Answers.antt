-- `write_misread` meets its contract: the fault's name stands between two texts (`misread_lines`).
-- Assumes nothing.
use mathlib.Core.Path.{◌∙◌}
use native.Mathlib.Omega.{arith}
use Rattle.semantics.specs.Text.{bytes}
use Rattle.outcome.proofs.Commands.{fault_room, end_room, misread_lines}
use Rattle.outcome.proofs.write_misread.Goals as goal

pub copy-start-requires : goal.copy-start-requires
copy-start-requires c = omega (arith, c.requires)

pub write_fault-after-requires : goal.write_fault-after-requires
unfolding bytes
write_fault-after-requires c = fault_room c.requires c.copy-start.ensures c.copy-start.auto.out

pub copy-requires : goal.copy-requires
unfolding bytes
copy-requires c = end_room c.requires c.copy-start.ensures c.copy-start.auto.out c.args.fault c.write_fault-after.ensures c.write_fault-after.auto.out

pub shape_of-out : goal.shape_of-out
shape_of-out c = c.copy.auto.out ∙ c.write_fault-after.auto.out ∙ c.copy-start.auto.out

pub returns : goal.returns
unfolding bytes
returns c = misread_lines c.requires c.copy-start.ensures c.copy-start.auto.out c.args.fault c.write_fault-after.ensures c.write_fault-after.auto.out c.copy.ensures
