-- `equal` meets its contract: kind and payload decide by what the two words of a value say, and the bytes where two strings differ in payload.
-- Assumes nothing.
use Rattle.equality.proofs.Comparisons.{other_kind, nulls, marks, one_payload, have_strings, by_bytes, two_payloads}
use Rattle.equality.proofs.equal.Goals as goal

pub returns-then-kind-kind_of : goal.returns-then-kind-kind_of
returns-then-kind-kind_of c = other_kind c.requires.0 c.kind_of-kind.ensures c.kind_of.ensures c.if-kind-kind_of.true

pub returns-then-kind-eq-TAG_NULL : goal.returns-then-kind-eq-TAG_NULL
returns-then-kind-eq-TAG_NULL c = nulls c.requires.0 c.kind_of-kind.ensures c.kind_of.ensures c.if-kind-kind_of.false c.if-kind-eq-TAG_NULL.true

pub returns-then-kind-eq-TAG_MARK : goal.returns-then-kind-eq-TAG_MARK
returns-then-kind-eq-TAG_MARK c = marks c.requires.0 c.kind_of-kind.ensures c.kind_of.ensures c.if-kind-kind_of.false c.if-kind-eq-TAG_MARK.true

pub returns-then-stack-lower : goal.returns-then-stack-lower
returns-then-stack-lower c = one_payload c.requires.0 c.kind_of-kind.ensures c.kind_of.ensures c.if-kind-kind_of.false c.if-stack-lower.true

pub same_bytes-requires : goal.same_bytes-requires
same_bytes-requires c = (c.requires.0, have_strings c.requires.0 c.kind_of-kind.ensures c.kind_of.ensures c.if-kind-kind_of.false c.requires.1 c.if-kind-eq-TAG_STRING.true)

pub returns-then-kind-eq-TAG_STRING : goal.returns-then-kind-eq-TAG_STRING
returns-then-kind-eq-TAG_STRING c = by_bytes c.requires.0 c.kind_of-kind.ensures c.kind_of.ensures c.if-kind-kind_of.false c.if-kind-eq-TAG_STRING.true c.same_bytes.ensures

pub returns : goal.returns
returns c = two_payloads c.requires.0 c.kind_of-kind.ensures c.kind_of.ensures c.if-kind-kind_of.false c.if-kind-eq-TAG_NULL.false c.if-kind-eq-TAG_MARK.false c.if-kind-eq-TAG_STRING.false c.if-stack-lower.false
