-- `put_zero` meets its contract: where the string has no byte n, a zero put there changes nothing (`no_room`).
-- Assumes nothing.
use Rattle.conversions.proofs.Putting.{no_room, zero_room}
use native.Mathlib.Omega.{arith}
use Rattle.conversions.proofs.put_zero.Goals as goal

pub returns-then-maximum-n : goal.returns-then-maximum-n
returns-then-maximum-n c = no_room c.requires.0 c.requires.1 c.maximum.ensures c.if-maximum-n.true

pub put_byte-requires : goal.put_byte-requires
put_byte-requires c = (omega (arith, c.requires.0), zero_room c.requires.0 c.requires.1 c.maximum.ensures c.if-maximum-n.false)
