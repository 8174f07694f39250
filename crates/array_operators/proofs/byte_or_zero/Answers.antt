-- `byte_or_zero` meets its contract: past the end the definition reads zero too.
-- Assumes nothing.
use Rattle.array_operators.proofs.Getting.{zero_past}
use Rattle.elements.proofs.Strings.{has_byte}
use Rattle.array_operators.proofs.byte_or_zero.Goals as goal

pub returns-then-maximum-q : goal.returns-then-maximum-q
returns-then-maximum-q c = zero_past c.maximum.ensures c.if-maximum-q.true

pub get_byte-requires : goal.get_byte-requires
get_byte-requires c = (c.requires.0, has_byte c.maximum.ensures c.requires.1 c.if-maximum-q.false)
