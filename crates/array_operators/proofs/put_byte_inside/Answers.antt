-- `put_byte_inside` meets its contract: past the end the definition changes nothing either.
-- Assumes nothing.
use Rattle.array_operators.proofs.Putting.{put_outside}
use Rattle.elements.proofs.Strings.{has_byte}
use Rattle.array_operators.proofs.put_byte_inside.Goals as goal

pub put_byte-requires : goal.put_byte-requires
put_byte-requires c = (c.requires.0, has_byte c.maximum.ensures c.requires.1 c.if-q-maximum.true)

pub returns-else-q-maximum : goal.returns-else-q-maximum
returns-else-q-maximum c = put_outside _ c.requires.0 c.requires.1 c.maximum.ensures c.if-q-maximum.false
