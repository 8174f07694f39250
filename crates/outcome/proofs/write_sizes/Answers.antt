-- `write_sizes` meets its contract: two numbers and a slash between them.
-- Assumes nothing.
use mathlib.Core.Path.{◌∙◌}
use lib.ListN.{length-set}
use native.Mathlib.Omega.{arith}
use Rattle.semantics.specs.TextLaws.{decimal_length}
use Rattle.outcome.proofs.Valuing.{slash_room, most_room, sizes_written}
use Rattle.outcome.proofs.write_sizes.Goals as goal

pub current_length-size-requires : goal.current_length-size-requires
current_length-size-requires c = (c.requires.1, c.requires.2)

pub maximum-most-requires : goal.maximum-most-requires
maximum-most-requires c = (c.requires.1, c.requires.2)

pub write_decimal-next-requires : goal.write_decimal-next-requires
write_decimal-next-requires c = omega (arith, c.requires.0, decimal_length c.current_length-size.result)

pub bounds-out-next : goal.bounds-out-next
bounds-out-next c = slash_room c.args.at c.requires.0 c.current_length-size.result c.maximum-most.result c.write_decimal-next.ensures c.write_decimal-next.auto.out

pub overflow_add-next : goal.overflow_add-next
overflow_add-next c = omega (arith, slash_room c.args.at c.requires.0 c.current_length-size.result c.maximum-most.result c.write_decimal-next.ensures c.write_decimal-next.auto.out, c.write_decimal-next.auto.out, c.well_formed.1.1.1.0.0)

pub write_decimal-requires : goal.write_decimal-requires
write_decimal-requires c = most_room c.args.at c.requires.0 c.current_length-size.result c.maximum-most.result c.write_decimal-next.ensures c.write_decimal-next.auto.out

pub shape_of-out : goal.shape_of-out
shape_of-out c = c.write_decimal.auto.out ∙ length-set c.write_decimal-next.new.out c.write_decimal-next.result 47 ∙ c.write_decimal-next.auto.out

pub returns : goal.returns
returns c = sizes_written c.args.at c.requires.0 c.current_length-size.result c.maximum-most.result c.write_decimal-next.ensures c.write_decimal-next.auto.out c.current_length-size.ensures c.maximum-most.ensures c.write_decimal.ensures
