-- `maximum` meets its contract: word 0 of the string's header is its maximum and 1 (`maximum_read`).
-- Assumes nothing.
use Rattle.elements.proofs.Strings.{string_item, maximum_read}
use Rattle.heap.proofs.Shapes.{room}
use native.Mathlib.Omega.{arith}
use mathlib.Core.Path.{refl}
use Prim.Native.Nat.{◌-◌}
use Rattle.elements.proofs.maximum.Goals as goal

pub kind-requires : goal.kind-requires
kind-requires c = let R = c.requires.1.4 in
    rw c.header_of-h.ensures (room R.stored.full.heap.shape _ (string_item R c.args.i _ (omega (arith, c.requires.0)) c.requires.1.5.item).lives refl)

pub overflow_sub-result : goal.overflow_sub-result
overflow_sub-result c = let k = c.args.m.depth - 1 - c.args.i in omega (arith, (rw c.header_of-h.ensures at c.kind.ensures), maximum_read c.requires.1.4 c.args.i k (omega (arith, c.requires.0)) c.requires.1.5.item)

pub returns : goal.returns
returns c = let k = c.args.m.depth - 1 - c.args.i in record { says = λ e d l μ R id q. omega (arith, (rw c.header_of-h.ensures at c.kind.ensures), maximum_read R c.args.i k (omega (arith, c.requires.0)) q) }
