-- `binding_payload` meets its contract, by the cases of its tests.
-- Assumes nothing.
use Rattle.start.proofs.Bindings.{payload_operator, payload_mark, payload_true, payload_none}
use Rattle.start.proofs.binding_payload.Goals as goal

pub returns-then-k-lt-OPERATOR_COUNT : goal.returns-then-k-lt-OPERATOR_COUNT
returns-then-k-lt-OPERATOR_COUNT c = payload_operator _ c.if-k-lt-OPERATOR_COUNT.true

pub returns-then-k-eq-OPERATOR_COUNT : goal.returns-then-k-eq-OPERATOR_COUNT
returns-then-k-eq-OPERATOR_COUNT c = payload_mark _ c.if-k-lt-OPERATOR_COUNT.false c.if-k-eq-OPERATOR_COUNT.true

pub returns-then-k : goal.returns-then-k
returns-then-k c = payload_true _ c.if-k-lt-OPERATOR_COUNT.false c.if-k-eq-OPERATOR_COUNT.false c.if-k.true

pub returns : goal.returns
returns c = payload_none _ c.if-k-lt-OPERATOR_COUNT.false c.if-k-eq-OPERATOR_COUNT.false c.if-k.false
