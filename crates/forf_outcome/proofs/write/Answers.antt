-- `forf_outcome::write` meets its contract: each way to an answer by its law.
-- Assumes nothing.
use Rattle.forf_outcome.proofs.Lining.{at_room, steps_room, depth_room, items_room, outcome_written}
use Rattle.semantics.specs.Text.{bytes}
use native.Mathlib.Omega.{arith}
use Rattle.forf_outcome.proofs.write.Goals as goal

pub write_number-a-requires : goal.write_number-a-requires
write_number-a-requires c = let pre = c.requires in
    omega (arith, at_room (pre) c.write_ending-head.ensures c.write_ending-head.auto.out)

pub write_number-b-requires : goal.write_number-b-requires
unfolding bytes
write_number-b-requires c = let pre = c.requires in
    omega (arith, steps_room (pre) c.write_ending-head.ensures c.write_ending-head.auto.out c.write_number-a.ensures c.write_number-a.auto.out)

pub write_number-c-requires : goal.write_number-c-requires
unfolding bytes
write_number-c-requires c = let pre = c.requires in
    omega (arith, depth_room (pre) c.write_ending-head.ensures c.write_ending-head.auto.out c.write_number-a.ensures c.write_number-a.auto.out c.write_number-b.ensures c.write_number-b.auto.out)

pub write_items-requires : goal.write_items-requires
unfolding bytes
write_items-requires c = let pre = c.requires in
    (pre.items, items_room (pre) c.write_ending-head.ensures c.write_ending-head.auto.out c.write_number-a.ensures c.write_number-a.auto.out c.write_number-b.ensures c.write_number-b.auto.out c.write_number-c.ensures c.write_number-c.auto.out)

pub returns : goal.returns
unfolding bytes
returns c = let pre = c.requires in
    outcome_written (pre) c.write_ending-head.ensures c.write_ending-head.auto.out c.write_number-a.ensures c.write_number-a.auto.out c.write_number-b.ensures c.write_number-b.auto.out c.write_number-c.ensures c.write_number-c.auto.out c.write_items.ensures
