-- `load` meets its contract: the words that it compares decide between the definition's errors and what `load_binding` does.
-- Assumes nothing.
use native.Mathlib.Omega.{arith}
use Rattle.dictionary_operators.proofs.Returns.{load_short, load_mistyped, load_room, load_unbound, load_bound, load_good}
use Rattle.dictionary_operators.proofs.load.Goals as goal

pub returns-then-m-lt1 : goal.returns-then-m-lt1
returns-then-m-lt1 c = load_short c.if-m-lt1.true

pub returns-then-name-ne-TAG_LITERAL : goal.returns-then-name-ne-TAG_LITERAL
returns-then-name-ne-TAG_LITERAL c = load_mistyped c.if-m-lt1.false (rw c.item-name.ensures.0 at c.if-name-ne-TAG_LITERAL.true)

pub binding-bound-requires : goal.binding-bound-requires
binding-bound-requires c = rw c.item-name.ensures.1 (load_room c.if-m-lt1.false (rw c.item-name.ensures.0 at c.if-name-ne-TAG_LITERAL.false) c.requires)

pub returns-then-bound-eq-TAG_UNBOUND : goal.returns-then-bound-eq-TAG_UNBOUND
returns-then-bound-eq-TAG_UNBOUND c =
    load_unbound c.if-m-lt1.false (rw c.item-name.ensures.0 at c.if-name-ne-TAG_LITERAL.false)
    (rw (c.binding-bound.ensures.0, c.item-name.ensures.1) at c.if-bound-eq-TAG_UNBOUND.true)

pub load_binding-requires : goal.load_binding-requires
load_binding-requires c = (
  omega (arith, c.if-m-lt1.false),
  rw c.item-name.ensures.1
      (load_bound c.if-m-lt1.false (rw c.item-name.ensures.0 at c.if-name-ne-TAG_LITERAL.false)
      (rw (c.binding-bound.ensures.0, c.item-name.ensures.1) at c.if-bound-eq-TAG_UNBOUND.false) c.requires),
)

pub shape_of-stack : goal.shape_of-stack
shape_of-stack c = c.load_binding.auto.stack

pub returns : goal.returns
returns c =
    load_good c.if-m-lt1.false (rw c.item-name.ensures.0 at c.if-name-ne-TAG_LITERAL.false)
    (rw (c.binding-bound.ensures.0, c.item-name.ensures.1) at c.if-bound-eq-TAG_UNBOUND.false)
    (rw c.item-name.ensures.1 at c.load_binding.ensures.loads_binding) c.load_binding.auto.stack
