-- `put_element` meets its contract: the item is assigned to the cell found (`put_moves`).
-- Assumes nothing.
use Rattle.elements.proofs.Putting.{target_of, put_moves}
use Rattle.elements.proofs.Arrays.{sought}
use native.Mathlib.Omega.{arith}
use mathlib.Core.Path.{refl}
use Rattle.elements.proofs.put_element.Goals as goal

pub seek-c-requires : goal.seek-c-requires
seek-c-requires c = let R = c.requires.2.4 in
    rw c.header_of-h.ensures (sought R c.args.i _ c.args.q (omega (arith, c.requires.0)) c.requires.2.5)

pub assign-left-requires : goal.assign-left-requires
assign-left-requires c = let R = c.requires.2.4 in
    (rw (c.item-value.ensures.0, c.item-value.ensures.1) (target_of R c.args.i _ c.args.q (omega (arith, c.requires.0)) c.requires.2.5 _ (rw c.header_of-h.ensures at c.seek-c.ensures) c.args.j _ (omega (arith, c.requires.1))), R.stored.none_dead)

pub returns : goal.returns
returns c = record { moves_heap = put_moves c.requires.2.4 c.args.i _ c.args.q (omega (arith, c.requires.0)) c.requires.2.5 _ (rw c.header_of-h.ensures at c.seek-c.ensures) c.args.j _ (omega (arith, c.requires.1)) (rw (c.item-value.ensures.0, c.item-value.ensures.1) at c.assign-left.ensures.1) c.assign-left.ensures.0; depth_value = refl }
