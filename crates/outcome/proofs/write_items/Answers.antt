-- `write_items` meets its contract: the items from place i on are written.
-- Assumes nothing.
use native.Mathlib.Omega.{arith}
use Rattle.outcome.proofs.Lining.{listed_begin, listed_ends, item_room_lem, listed_again}
use Rattle.outcome.proofs.write_items.Goals as goal

pub loop-i-init : goal.loop-i-init
loop-i-init c = (omega arith, listed_begin)

pub write_item-next-requires : goal.write_item-next-requires
write_item-next-requires c = item_room_lem c.requires c.loop-i.invariant.1 c.loop-i-test.true c.loop-i.invariant.0

pub loop-i-preserved : goal.loop-i-preserved
loop-i-preserved c = (omega (arith, c.loop-i.invariant.0), listed_again c.requires c.loop-i.invariant.1 c.loop-i-test.true c.loop-i.invariant.0 c.write_item-next.ensures c.write_item-next.auto.out)

pub shape_of-out : goal.shape_of-out
shape_of-out c = c.loop-i.invariant.1.long

pub returns : goal.returns
returns c = listed_ends (omega (arith, c.loop-i-test.false)) c.loop-i.invariant.1
