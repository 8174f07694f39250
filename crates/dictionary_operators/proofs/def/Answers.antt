-- `def` meets its contract: the words that it compares decide between the definition's errors and what `bind_item` and two drops do.
-- Assumes nothing.
use native.Mathlib.Omega.{arith}
use Rattle.dictionary_operators.proofs.Returns.{def_short, def_mistyped, def_named, def_bound, def_good}
use Rattle.machine.proofs.Outcomes.{elsewhere}
use Rattle.dictionary_operators.proofs.def.Goals as goal

pub returns-then-m-lt2 : goal.returns-then-m-lt2
returns-then-m-lt2 c = def_short c.if-m-lt2.true

pub returns-then-name-ne-TAG_LITERAL : goal.returns-then-name-ne-TAG_LITERAL
returns-then-name-ne-TAG_LITERAL c = def_mistyped c.if-m-lt2.false (rw c.item-name.ensures.0 at c.if-name-ne-TAG_LITERAL.true)

pub bind_item-bound-requires : goal.bind_item-bound-requires
bind_item-bound-requires c = (omega (arith, c.if-m-lt2.false), rw c.item-name.ensures.1 (def_named c.if-m-lt2.false (rw c.item-name.ensures.0 at c.if-name-ne-TAG_LITERAL.false) c.requires))

pub drop-one-requires : goal.drop-one-requires
drop-one-requires c = (omega (arith, c.if-m-lt2.false, c.bind_item-bound.ensures.depth_value), def_bound c.if-m-lt2.false (rw c.item-name.ensures.0 at c.if-name-ne-TAG_LITERAL.false) (rw c.item-name.ensures.1 at c.bind_item-bound.ensures.binds_item) c.requires)

pub drop-requires : goal.drop-requires
drop-requires c = (omega (arith, c.if-m-lt2.false, c.bind_item-bound.ensures.depth_value, c.drop-one.ensures.depth_value), elsewhere c.drop-one.ensures.moves_heap (def_bound c.if-m-lt2.false (rw c.item-name.ensures.0 at c.if-name-ne-TAG_LITERAL.false) (rw c.item-name.ensures.1 at c.bind_item-bound.ensures.binds_item) c.requires))

pub shape_of-dict : goal.shape_of-dict
shape_of-dict c = c.bind_item-bound.auto.dict

pub returns : goal.returns
returns c = def_good c.if-m-lt2.false (rw c.item-name.ensures.0 at c.if-name-ne-TAG_LITERAL.false) (rw c.item-name.ensures.1 at c.bind_item-bound.ensures.binds_item) c.drop-one.ensures.moves_heap c.drop.ensures.moves_heap c.bind_item-bound.auto.dict
