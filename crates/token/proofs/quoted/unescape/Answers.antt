-- `token::quoted::unescape` meets its contract: what comes next in a string that is known to be good is a byte or its end.
-- Assumes nothing.
use Rattle.token.proofs.Escapes.{unescape_byte, unescape_closed, unescape_fault}
use Rattle.token.proofs.quoted.unescape.Goals as goal

pub returns-in-Ok-Byte : goal.returns-in-Ok-Byte
returns-in-Ok-Byte c = unescape_byte (rw c.in-Ok-Byte.field-0-is at c.in-Ok-Byte.ensures)

pub returns-in-Ok-Closed : goal.returns-in-Ok-Closed
returns-in-Ok-Closed c = unescape_closed (rw c.in-Ok-Closed.field-0-is at c.in-Ok-Closed.ensures)

pub returns-in-Err : goal.returns-in-Err
returns-in-Err c = unescape_fault _ c.in-Err.ensures
