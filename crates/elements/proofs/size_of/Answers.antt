-- `size_of` meets its contract: `heap::size` of the array's header is its length (`size_read`).
-- Assumes nothing.
use Rattle.elements.proofs.Arrays.{array_item, size_read}
use Rattle.heap.proofs.Shapes.{room}
use native.Mathlib.Omega.{arith}
use mathlib.Core.Path.{refl, ◌∙◌}
use Rattle.elements.proofs.size_of.Goals as goal

pub size-requires : goal.size-requires
size-requires c = let R = c.requires.1.4 in
    rw c.header_of-h.ensures (room R.stored.full.heap.shape _ (array_item R c.args.i _ (omega (arith, c.requires.0)) c.requires.1.5.item).lives refl)

pub returns : goal.returns
returns c = record { says = λ e d l μ R x id q. (rw c.header_of-h.ensures at c.size.ensures) ∙ size_read R c.args.i _ (omega (arith, c.requires.0)) q }
