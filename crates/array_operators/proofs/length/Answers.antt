-- `length` meets its contract: the tag of the operand decides between typecheck and its length.
-- Assumes nothing.
use Rattle.array_operators.proofs.Getting.{length_short, length_type, length_done}
use native.Mathlib.Omega.{arith}
use Rattle.std.proofs.lemmas.Result.{err_from_is_err_and}
use Rattle.array_operators.proofs.length.Goals as goal

pub returns-in_err-needs : goal.returns-in_err-needs
returns-in_err-needs c =
    let p = err_from_is_err_and c.from_residual.result c.from_residual.ensures.1 in
    rw (p.1, p.2, c.in_err-needs.ensures.1) (length_short c.in_err-needs.ensures.0)

pub returns-then-tag-lt-TAG_STRING : goal.returns-then-tag-lt-TAG_STRING
returns-then-tag-lt-TAG_STRING c = length_type c.tag_of-tag.ensures c.in_ok-needs.ensures c.if-tag-lt-TAG_STRING.true

pub push_scalar-requires : goal.push_scalar-requires
push_scalar-requires c = omega (arith, c.drop-left.ensures.depth_value, c.in_ok-needs.ensures, c.requires.4.rooms.stack_fits)

pub returns : goal.returns
returns c = length_done c.tag_of-tag.ensures c.in_ok-needs.ensures c.if-tag-lt-TAG_STRING.false c.length_of-n.ensures c.drop-left.ensures.moves_heap c.push_scalar.ensures.pushes c.push_scalar.auto.stack
