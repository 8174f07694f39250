-- `copy_element` meets its contract: the words of the cell found are the element, to which the item gives way (`element_moves`).
-- Assumes nothing.
use Rattle.elements.proofs.Taking.{element_held, element_moves}
use Rattle.elements.proofs.Arrays.{sought, at_cell}
use Rattle.heap.proofs.Shapes.{room}
use native.Mathlib.Omega.{arith}
use mathlib.Core.Path.{refl}
use Rattle.elements.proofs.copy_element.Goals as goal

pub seek-c-requires : goal.seek-c-requires
seek-c-requires c = let R = c.requires.2.4 in
    rw c.header_of-h.ensures (sought R c.args.i _ c.args.q (omega (arith, c.requires.0)) c.requires.2.5)

pub value_of-value-requires : goal.value_of-value-requires
value_of-value-requires c = let R = c.requires.2.4 in
    room R.stored.full.heap.shape _ (at_cell R c.args.i _ c.args.q (omega (arith, c.requires.0)) c.requires.2.5 _ (rw c.header_of-h.ensures at c.seek-c.ensures)) refl

pub put_value-requires : goal.put_value-requires
put_value-requires c = let V = c.value_of-value.ensures in
    (c.requires.1, element_held c.requires.2.4 c.args.i _ c.args.q (omega (arith, c.requires.0)) c.requires.2.5 _ (rw c.header_of-h.ensures at c.seek-c.ensures) _ _ V.0 V.1)

pub returns : goal.returns
returns c = let V = c.value_of-value.ensures in record {
  moves_heap = element_moves c.requires.2.4 c.args.i _ c.args.q (omega (arith, c.requires.0)) c.requires.2.5 _ (rw c.header_of-h.ensures at c.seek-c.ensures) _ _ V.0 V.1 c.args.j c.put_value.ensures.puts_value;
  depth_value = c.put_value.ensures.depth_value;
}
