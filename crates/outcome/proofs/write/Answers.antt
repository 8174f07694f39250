-- `outcome::write` meets its contract: the parts are written one after the other (`outcome_written`), and the bounds on those before the items leave room for these.
-- Assumes nothing.
use mathlib.Core.Path.{◌∙◌}
use native.Mathlib.Omega.{arith}
use Rattle.semantics.specs.Text.{bytes}
use Rattle.outcome.proofs.Reporting.{ending_room, at_room, where_room, counts_room, items_room, outcome_written}
use Rattle.outcome.proofs.write.Goals as goal

pub write_ending-head-requires : goal.write_ending-head-requires
write_ending-head-requires c = ending_room c.requires

pub overflow_cast-at : goal.overflow_cast-at
overflow_cast-at c = omega (arith, c.requires.offset)

pub write_number-token-requires : goal.write_number-token-requires
unfolding bytes
write_number-token-requires c = at_room c.requires c.write_ending-head.ensures c.write_ending-head.auto.out

pub write_where-place-requires : goal.write_where-place-requires
unfolding bytes
write_where-place-requires c = where_room c.requires c.write_ending-head.ensures c.write_ending-head.auto.out c.write_number-token.ensures c.write_number-token.auto.out

pub write_counts-next-requires : goal.write_counts-next-requires
unfolding bytes
write_counts-next-requires c = counts_room c.requires c.write_ending-head.ensures c.write_ending-head.auto.out c.write_number-token.ensures c.write_number-token.auto.out c.write_where-place.ensures c.write_where-place.auto.out

pub write_items-requires : goal.write_items-requires
unfolding bytes
write_items-requires c = items_room c.requires c.write_ending-head.ensures c.write_ending-head.auto.out c.write_number-token.ensures c.write_number-token.auto.out c.write_where-place.ensures c.write_where-place.auto.out c.args.steps c.write_counts-next.ensures c.write_counts-next.auto.out

pub shape_of-out : goal.shape_of-out
shape_of-out c = c.write_items.auto.out ∙ c.write_counts-next.auto.out ∙ c.write_where-place.auto.out ∙ c.write_number-token.auto.out ∙ c.write_ending-head.auto.out

pub returns : goal.returns
unfolding bytes
returns c = outcome_written c.requires c.write_ending-head.ensures c.write_ending-head.auto.out c.write_number-token.ensures c.write_number-token.auto.out c.write_where-place.ensures c.write_where-place.auto.out c.args.steps c.write_counts-next.ensures c.write_counts-next.auto.out c.write_items.ensures
