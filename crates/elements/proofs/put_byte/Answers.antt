-- `put_byte` meets its contract: the item's words name the string's header, and its byte is set (`byte_moves`).
-- Assumes nothing.
use native.Mathlib.Omega.{arith}
use Rattle.elements.proofs.Strings.{byte_sought, byte_moves}
use Rattle.elements.proofs.put_byte.Goals as goal

pub put_byte_at-requires : goal.put_byte_at-requires
put_byte_at-requires c = rw c.header_of-h.ensures (byte_sought c.requires.1.4 c.args.i _ c.args.q (omega (arith, c.requires.0)) c.requires.1.5)

pub returns : goal.returns
returns c = byte_moves c.requires.1.4 c.args.i _ c.args.q (omega (arith, c.requires.0)) c.requires.1.5 c.args.b (rw c.header_of-h.ensures at c.put_byte_at.ensures)
