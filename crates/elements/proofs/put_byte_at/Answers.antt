-- `put_byte_at` meets its contract: the byte is set in its cell, which `seek` finds (`byte_puts`).
-- Assumes nothing.
use native.Mathlib.Omega.{arith}
use Rattle.elements.proofs.Strings.{cell_room, byte_puts}
use borrow.Author.Rules.{rules}
use Rattle.elements.proofs.put_byte_at.Goals as goal

pub get-w-requires : goal.get-w-requires
get-w-requires c = (omega arith, cell_room _ _ _ c.requires c.seek-c.ensures)

pub put-requires : goal.put-requires
put-requires c = (omega arith, cell_room _ _ _ c.requires c.seek-c.ensures)

pub returns : goal.returns
returns c = byte_puts c.args.h c.args.q _ c.seek-c.ensures c.args.b (search rules) _ _ c.get-w.ensures c.with_byte.ensures c.put.ensures
