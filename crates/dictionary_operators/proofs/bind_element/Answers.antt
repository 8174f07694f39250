-- `bind_element` meets its contract: by the tags that it compares the element stays, or becomes the operator that its name is bound to.
-- Assumes nothing.
use native.Mathlib.Omega.{arith}
use mathlib.Core.Path.{refl}
use Prim.Native.Nat.{◌-◌}
use Rattle.dictionary_operators.proofs.Elements.{bind_sought, bind_room, bind_skips, bind_slot, bind_keeps, bind_target, bind_puts}
use Rattle.dictionary_operators.proofs.bind_element.Goals as goal

pub seek-c-requires : goal.seek-c-requires
seek-c-requires c = rw c.item-h.ensures.1 (bind_sought c.args.q (c.args.m.depth - 1) (omega (arith, c.requires.0)) c.requires.1)

pub value_of-name-requires : goal.value_of-name-requires
value_of-name-requires c = bind_room c.args.q (c.args.m.depth - 1) (omega (arith, c.requires.0)) c.requires.1 _ (rw c.item-h.ensures.1 at c.seek-c.ensures)

pub returns-then-name-ne-TAG_EXECUTABLE : goal.returns-then-name-ne-TAG_EXECUTABLE
returns-then-name-ne-TAG_EXECUTABLE c = record { binds_element = bind_skips c.args.q (c.args.m.depth - 1) (omega (arith, c.requires.0)) c.requires.1 _ (rw c.item-h.ensures.1 at c.seek-c.ensures) _ c.value_of-name.ensures.0 c.if-name-ne-TAG_EXECUTABLE.true; depth_value = refl }

pub binding-bound-requires : goal.binding-bound-requires
binding-bound-requires c = bind_slot c.args.q (c.args.m.depth - 1) (omega (arith, c.requires.0)) c.requires.1 _ (rw c.item-h.ensures.1 at c.seek-c.ensures) _ c.value_of-name.ensures.0 c.if-name-ne-TAG_EXECUTABLE.false _ c.value_of-name.ensures.1

pub returns-then-bound-ne-TAG_OPERATOR : goal.returns-then-bound-ne-TAG_OPERATOR
returns-then-bound-ne-TAG_OPERATOR c = record { binds_element = bind_keeps c.args.q (c.args.m.depth - 1) (omega (arith, c.requires.0)) c.requires.1 _ (rw c.item-h.ensures.1 at c.seek-c.ensures) _ c.value_of-name.ensures.0 c.if-name-ne-TAG_EXECUTABLE.false _ c.value_of-name.ensures.1 (rw c.binding-bound.ensures.0 at c.if-bound-ne-TAG_OPERATOR.true); depth_value = refl }

pub assign-left-requires : goal.assign-left-requires
assign-left-requires c =
    rw c.if-bound-ne-TAG_OPERATOR.false
    (bind_target c.args.q (c.args.m.depth - 1) (omega (arith, c.requires.0)) c.requires.1 _ (rw c.item-h.ensures.1 at c.seek-c.ensures) _ c.value_of-name.ensures.0 c.if-name-ne-TAG_EXECUTABLE.false _ c.value_of-name.ensures.1 (rw c.binding-bound.ensures.0 at c.if-bound-ne-TAG_OPERATOR.false) c.binding-bound.ensures.1)

pub returns : goal.returns
returns c = record {
  binds_element =
      bind_puts c.args.q (c.args.m.depth - 1) (omega (arith, c.requires.0)) c.requires.1 _ (rw c.item-h.ensures.1 at c.seek-c.ensures) _ c.value_of-name.ensures.0 c.if-name-ne-TAG_EXECUTABLE.false _ c.value_of-name.ensures.1 (rw c.binding-bound.ensures.0 at c.if-bound-ne-TAG_OPERATOR.false) c.binding-bound.ensures.1
      (rw c.if-bound-ne-TAG_OPERATOR.false at c.assign-left.ensures.1) c.assign-left.ensures.0;
  depth_value = refl;
}
