-- `string_byte` meets its contract: the byte stands in its cell (`byte_read`).
-- Assumes nothing.
use Rattle.printing.proofs.Bytes.{byte_read}
use Rattle.printing.proofs.Headers.{byte_sought, byte_room}
use native.Mathlib.Omega.{arith}
use Rattle.printing.proofs.string_byte.Goals as goal

pub seek-c-requires : goal.seek-c-requires
seek-c-requires c = let K = c.requires.1 in byte_sought K.rep K.words _ c.requires.0

pub get-w-requires : goal.get-w-requires
get-w-requires c = let K = c.requires.1 in (omega arith, byte_room K.rep K.words c.args.q c.requires.0 _ c.seek-c.ensures)

pub returns : goal.returns
returns c = byte_read c.requires.0 c.seek-c.ensures c.get-w.ensures c.byte_of.ensures
