-- `byte_or_zero` meets its contract: below the maximum by `get_byte`, past it since there is no byte.
-- Assumes nothing.
use Rattle.elements.proofs.Strings.{has_byte}
use Rattle.equality.proofs.Comparisons.{past_end}
use Rattle.equality.proofs.byte_or_zero.Goals as goal

pub maximum-requires : goal.maximum-requires
maximum-requires c = c.requires

pub get_byte-requires : goal.get_byte-requires
get_byte-requires c = (c.requires.0, has_byte c.maximum.ensures c.requires.1 c.if-q-maximum.true)

pub returns-then-q-maximum : goal.returns-then-q-maximum
returns-then-q-maximum c = c.get_byte.ensures

pub returns : goal.returns
returns c = past_end c.maximum.ensures c.if-q-maximum.false
