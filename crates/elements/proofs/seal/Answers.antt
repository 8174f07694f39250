-- `seal` meets its contract: the item's words name the object's header, which gets the mark (`mark_moves`).
-- Assumes nothing.
use native.Mathlib.Omega.{arith}
use Rattle.elements.proofs.Marking.{object_room, mark_moves}
use Rattle.elements.proofs.seal.Goals as goal

pub seal-requires : goal.seal-requires
seal-requires c = rw c.header_of-h.ensures (object_room c.requires.1.4 c.args.i _ (omega (arith, c.requires.0)) c.requires.1.5.item)

pub returns : goal.returns
returns c = mark_moves c.requires.1.4 c.args.i _ (omega (arith, c.requires.0)) c.requires.1.5 (rw c.header_of-h.ensures at c.seal.ensures)
