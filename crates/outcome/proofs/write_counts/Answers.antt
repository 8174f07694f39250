-- `write_counts` meets its contract: the numbers are those of the machine that the words stand for (`counts_written`).
-- Assumes nothing.
use mathlib.Core.Path.{refl, ◌∙◌}
use native.Mathlib.Omega.{arith}
use Rattle.semantics.specs.Text.{bytes}
use Rattle.outcome.proofs.Numbers.{count_somewhere, free_few, depth_few, after_steps, after_depth, after_held, counts_written}
use Rattle.outcome.proofs.write_counts.Goals as goal

pub free_cells-requires : goal.free_cells-requires
free_cells-requires c = count_somewhere c.requires

pub overflow_sub-held : goal.overflow_sub-held
overflow_sub-held c = omega (arith, c.free_cells.ensures, free_few c.requires)

pub write_number-b-requires : goal.write_number-b-requires
write_number-b-requires c = omega (arith, c.requires.fits)

pub overflow_cast-m : goal.overflow_cast-m
overflow_cast-m c = omega (arith, depth_few c.requires)

pub write_number-c-requires : goal.write_number-c-requires
unfolding bytes
write_number-c-requires c = omega (arith, after_steps c.requires c.args.steps c.write_number-b.ensures c.write_number-b.auto.out)

pub write_number-d-requires : goal.write_number-d-requires
unfolding bytes
write_number-d-requires c = omega (arith, after_depth c.requires c.args.steps c.write_number-b.ensures c.write_number-b.auto.out c.write_number-c.ensures c.write_number-c.auto.out)

pub overflow_cast-m-2 : goal.overflow_cast-m-2
overflow_cast-m-2 c = omega (arith, c.requires.log_few)

pub write_number-requires : goal.write_number-requires
unfolding bytes
write_number-requires c = omega (arith, after_held c.requires c.args.steps c.write_number-b.ensures c.write_number-b.auto.out c.write_number-c.ensures c.write_number-c.auto.out _ c.write_number-d.ensures c.write_number-d.auto.out)

pub shape_of-out : goal.shape_of-out
shape_of-out c = c.write_number.auto.out ∙ c.write_number-d.auto.out ∙ c.write_number-c.auto.out ∙ c.write_number-b.auto.out

pub returns : goal.returns
unfolding bytes
returns c = counts_written c.requires c.args.steps c.write_number-b.ensures c.write_number-b.auto.out c.write_number-c.ensures c.write_number-c.auto.out _ c.write_number-d.ensures c.write_number-d.auto.out c.free_cells.result c.free_cells.ensures refl c.write_number.ensures
