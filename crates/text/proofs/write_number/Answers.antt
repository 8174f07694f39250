-- `write_number` meets its contract: key, sign, digits and line feed, one after the other.
-- Assumes nothing.
use mathlib.Core.Path.{◌∙◌}
use lib.ListN.{length-set}
use native.Mathlib.Omega.{arith}
use Rattle.text.proofs.NumberLines.{sign_room, digits_room, feed_room, number_line}
use Rattle.text.proofs.write_number.Goals as goal

pub copy-next-requires : goal.copy-next-requires
copy-next-requires c = omega (arith, c.requires)

pub bounds-out-next : goal.bounds-out-next
bounds-out-next c = sign_room c.args.n c.requires c.copy-next.ensures c.copy-next.auto.out

pub overflow_add-next : goal.overflow_add-next
overflow_add-next c = omega (arith, sign_room c.args.n c.requires c.copy-next.ensures c.copy-next.auto.out, c.copy-next.auto.out, c.well_formed.0.0)

pub write_decimal-after-requires : goal.write_decimal-after-requires
write_decimal-after-requires c = digits_room c.args.n c.requires c.copy-next.ensures c.copy-next.auto.out

pub bounds-out-after : goal.bounds-out-after
bounds-out-after c = feed_room c.args.n c.requires c.copy-next.ensures c.copy-next.auto.out c.write_decimal-after.ensures c.write_decimal-after.auto.out

pub overflow_add-result : goal.overflow_add-result
overflow_add-result c = omega (arith, feed_room c.args.n c.requires c.copy-next.ensures c.copy-next.auto.out c.write_decimal-after.ensures c.write_decimal-after.auto.out, c.write_decimal-after.auto.out, length-set c.copy-next.new.out c.copy-next.result 61, c.copy-next.auto.out, c.well_formed.0.0)

pub shape_of-out : goal.shape_of-out
shape_of-out c = length-set c.write_decimal-after.new.out c.write_decimal-after.result 10 ∙ c.write_decimal-after.auto.out ∙ length-set c.copy-next.new.out c.copy-next.result 61 ∙ c.copy-next.auto.out

pub returns : goal.returns
returns c = number_line c.args.n c.requires c.copy-next.ensures c.copy-next.auto.out c.write_decimal-after.ensures c.write_decimal-after.auto.out
