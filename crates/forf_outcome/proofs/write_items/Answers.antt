-- `forf_outcome::write_items` meets its contract: each way to an answer by its law.
-- Assumes nothing.
use Rattle.forf_outcome.proofs.Lining.{list_begin, list_room, list_again, list_ends}
use Rattle.forf_outcome.proofs.write_items.Goals as goal

pub loop-i-init : goal.loop-i-init
loop-i-init c = list_begin _ _ _ _ _

pub write_item-next-requires : goal.write_item-next-requires
write_item-next-requires c = list_room c.loop-i.invariant c.requires.0 c.requires.1 c.loop-i-test.true

pub loop-i-preserved : goal.loop-i-preserved
loop-i-preserved c = list_again c.loop-i.invariant c.requires.0 c.requires.1 c.loop-i-test.true c.write_item-next.ensures c.write_item-next.auto.out

pub shape_of-out : goal.shape_of-out
shape_of-out c = c.loop-i.invariant.long

pub returns : goal.returns
returns c = list_ends c.loop-i.invariant c.loop-i-test.false
