-- `is_sealed` meets its contract: the mark of the header that the item's words name is the object's (`mark_read`).
-- Assumes nothing.
use native.Mathlib.Omega.{arith}
use mathlib.Core.Path.{◌∙◌}
use Rattle.elements.proofs.Marking.{object_room, mark_read}
use Rattle.elements.proofs.is_sealed.Goals as goal

pub is_sealed-requires : goal.is_sealed-requires
is_sealed-requires c = rw c.header_of-h.ensures (object_room c.requires.1.4 c.args.i _ (omega (arith, c.requires.0)) c.requires.1.5.item)

pub returns : goal.returns
returns c = record { says = λ e d l μ R id q. (rw c.header_of-h.ensures at c.is_sealed.ensures) ∙ mark_read R c.args.i _ (omega (arith, c.requires.0)) q }
