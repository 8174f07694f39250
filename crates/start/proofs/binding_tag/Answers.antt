-- `binding_tag` meets its contract, by the cases of its tests.
-- Assumes nothing.
use Rattle.start.proofs.Bindings.{tag_operator, tag_boolean, tag_null}
use Rattle.start.proofs.binding_tag.Goals as goal

pub returns-then-k-le-OPERATOR_COUNT : goal.returns-then-k-le-OPERATOR_COUNT
returns-then-k-le-OPERATOR_COUNT c = tag_operator _ c.if-k-le-OPERATOR_COUNT.true

pub returns-then-k : goal.returns-then-k
returns-then-k c = tag_boolean _ c.if-k-le-OPERATOR_COUNT.false c.if-k.true

pub returns : goal.returns
returns c = tag_null _ c.if-k-le-OPERATOR_COUNT.false c.if-k.false
