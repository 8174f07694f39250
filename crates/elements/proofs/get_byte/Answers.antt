-- `get_byte` meets its contract: the byte stands in its cell (`byte_says`).
-- Assumes nothing.
use Rattle.elements.proofs.Strings.{byte_sought, byte_cell, byte_says}
use Rattle.store.specs.Rep.{byte_of}
use Rattle.heap.proofs.Shapes.{room}
use Prim.Native.Nat.{◌%◌}
use native.Mathlib.Omega.{arith}
use mathlib.Core.Path.{refl, ap, ◌∙◌}
use Rattle.elements.proofs.get_byte.Goals as goal

pub seek-c-requires : goal.seek-c-requires
seek-c-requires c = let R = c.requires.1.4 in
    rw c.header_of-h.ensures (byte_sought R c.args.i _ c.args.q (omega (arith, c.requires.0)) c.requires.1.5)

pub get-w-requires : goal.get-w-requires
get-w-requires c = let R = c.requires.1.4 in
    (omega arith, room R.stored.full.heap.shape _ (byte_cell R c.args.i _ c.args.q (omega (arith, c.requires.0)) c.requires.1.5 _ (rw c.header_of-h.ensures at c.seek-c.ensures)) refl)

pub returns : goal.returns
returns c = record { says = λ e d l μ R id x. c.byte_of.ensures ∙ ap (λ y. byte_of y (c.args.q % 8 % 4)) c.get-w.ensures ∙ byte_says c.requires.1.4 c.args.i _ c.args.q (omega (arith, c.requires.0)) c.requires.1.5 _ (rw c.header_of-h.ensures at c.seek-c.ensures) R id x }
