-- `put_in_string` meets its contract: typecheck of the byte before the mark, and rangecheck of index and byte after it, and the byte put before the operands go.
-- Assumes nothing.
use native.Mathlib.Omega.{arith}
use Rattle.machine.proofs.Outcomes.{elsewhere}
use Rattle.array_operators.proofs.Putting.{put_no_byte, put_byte_refused, put_byte_below, put_byte_large, put_byte_beyond, put_byte_done}
use borrow.Author.Rules.{rules}
use Rattle.elements.proofs.Tags.{string_there}
use Rattle.elements.proofs.Tags.{object_there}
use Rattle.std.proofs.lemmas.Result.{err_from_is_err_and}
use mathlib.Core.Path.{refl}
use Rattle.array_operators.proofs.Objects.{an_integer_is, no_integer}
use Rattle.array_operators.proofs.put_in_string.Goals as goal

pub is_sealed-sealed-requires : goal.is_sealed-sealed-requires
is_sealed-sealed-requires c = let pre = c.requires in
    (omega (arith, pre.0), object_there pre.1 (omega arith) pre.3)

pub returns-then-sealed : goal.returns-then-sealed
returns-then-sealed c = let pre = c.requires in
    put_byte_refused pre.0 pre.2 pre.1 (an_integer_is _ (omega (arith, pre.0)) c.in_ok-b.ensures.0 c.in_ok-b.ensures.1) refl c.is_sealed-sealed.ensures c.if-sealed.true

pub returns-then-n-ge-SIGN : goal.returns-then-n-ge-SIGN
returns-then-n-ge-SIGN c = let pre = c.requires in
    put_byte_below pre.0 pre.2 pre.1 (an_integer_is _ (omega (arith, pre.0)) c.in_ok-b.ensures.0 c.in_ok-b.ensures.1) refl c.is_sealed-sealed.ensures c.if-sealed.false c.if-n-ge-SIGN.true (search rules)

pub returns-then-b-gt255 : goal.returns-then-b-gt255
returns-then-b-gt255 c = let pre = c.requires in
    put_byte_large pre.0 pre.2 pre.1 (an_integer_is _ (omega (arith, pre.0)) c.in_ok-b.ensures.0 c.in_ok-b.ensures.1) refl c.is_sealed-sealed.ensures c.if-sealed.false c.if-n-ge-SIGN.false c.if-b-gt255.true (search rules)

pub maximum-most-requires : goal.maximum-most-requires
maximum-most-requires c = let pre = c.requires in
    (omega (arith, pre.0), string_there pre.1 pre.3)

pub put_byte_inside-requires : goal.put_byte_inside-requires
put_byte_inside-requires c = let pre = c.requires in
    (omega (arith, pre.0), string_there pre.1 pre.3)

pub drop_items-requires : goal.drop_items-requires
drop_items-requires c = let pre = c.requires in
    (omega (arith, pre.0), elsewhere c.put_byte_inside.ensures pre.3)

pub returns-then-takes_byte : goal.returns-then-takes_byte
returns-then-takes_byte c = let pre = c.requires in
    put_byte_done pre.0 pre.2 pre.1 (an_integer_is _ (omega (arith, pre.0)) c.in_ok-b.ensures.0 c.in_ok-b.ensures.1) refl c.is_sealed-sealed.ensures c.if-sealed.false c.if-n-ge-SIGN.false c.if-b-gt255.false c.maximum-most.ensures c.takes_byte.ensures c.if-takes_byte.true c.put_byte_inside.ensures c.drop_items.ensures.moves_heap

pub returns : goal.returns
returns c = let pre = c.requires in
    put_byte_beyond pre.0 pre.2 pre.1 (an_integer_is _ (omega (arith, pre.0)) c.in_ok-b.ensures.0 c.in_ok-b.ensures.1) refl c.is_sealed-sealed.ensures c.if-sealed.false c.if-n-ge-SIGN.false c.if-b-gt255.false c.maximum-most.ensures c.takes_byte.ensures c.if-takes_byte.false

pub returns-in_err-b : goal.returns-in_err-b
returns-in_err-b c =
    let p = err_from_is_err_and c.from_residual.result c.from_residual.ensures.1 in
    let pre = c.requires in
    rw (p.1, p.2, c.in_err-b.ensures.1) (put_no_byte pre.0 pre.2 pre.1 (no_integer _ (omega (arith, pre.0)) c.in_err-b.ensures.0) refl)
