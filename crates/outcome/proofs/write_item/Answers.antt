-- `write_item` meets its contract: the item stands between its key and a line feed.
-- Assumes nothing.
use mathlib.Core.Path.{◌∙◌}
use lib.ListN.{length-set}
use native.Mathlib.Omega.{arith}
use Rattle.semantics.specs.Text.{bytes}
use Rattle.outcome.proofs.Lining.{value_room, feed_room, item_written}
use Rattle.outcome.proofs.write_item.Goals as goal

pub copy-next-requires : goal.copy-next-requires
copy-next-requires c = omega (arith, c.requires.0)

pub write_value-after-requires : goal.write_value-after-requires
unfolding bytes
write_value-after-requires c = (value_room c.requires.1 c.requires.0 c.copy-next.ensures c.copy-next.auto.out, c.requires.1)

pub bounds-out-after : goal.bounds-out-after
unfolding bytes
bounds-out-after c = feed_room c.requires.1 c.requires.0 c.copy-next.ensures c.copy-next.auto.out c.write_value-after.ensures c.write_value-after.auto.out

pub overflow_add-result : goal.overflow_add-result
unfolding bytes
overflow_add-result c = omega (arith, feed_room c.requires.1 c.requires.0 c.copy-next.ensures c.copy-next.auto.out c.write_value-after.ensures c.write_value-after.auto.out, c.write_value-after.auto.out, c.copy-next.auto.out, c.well_formed.1.1.1.1.0.0)

pub shape_of-out : goal.shape_of-out
shape_of-out c = length-set c.write_value-after.new.out c.write_value-after.result 10 ∙ c.write_value-after.auto.out ∙ c.copy-next.auto.out

pub returns : goal.returns
unfolding bytes
returns c = item_written c.requires.1 c.requires.0 c.copy-next.ensures c.copy-next.auto.out c.write_value-after.ensures c.write_value-after.auto.out
