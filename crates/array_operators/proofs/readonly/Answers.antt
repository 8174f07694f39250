-- `readonly` meets its contract: the tag of the operand decides between typecheck and the mark.
-- Assumes nothing.
use Rattle.elements.proofs.Tags.{object_there}
use Rattle.array_operators.proofs.Sealing.{readonly_short, readonly_type, readonly_done}
use Rattle.std.proofs.lemmas.Result.{err_from_is_err_and}
use Rattle.array_operators.proofs.readonly.Goals as goal

pub returns-in_err-needs : goal.returns-in_err-needs
returns-in_err-needs c =
    let p = err_from_is_err_and c.from_residual.result c.from_residual.ensures.1 in
    rw (p.1, p.2, c.in_err-needs.ensures.1) (readonly_short c.in_err-needs.ensures.0)

pub returns-then-tag_of-lt-TAG_STRING : goal.returns-then-tag_of-lt-TAG_STRING
returns-then-tag_of-lt-TAG_STRING c = readonly_type c.in_ok-needs.ensures c.tag_of.ensures c.if-tag_of-lt-TAG_STRING.true

pub seal-requires : goal.seal-requires
seal-requires c = (c.in_ok-needs.ensures, object_there c.tag_of.ensures c.if-tag_of-lt-TAG_STRING.false c.requires)

pub returns : goal.returns
returns c = readonly_done c.in_ok-needs.ensures c.tag_of.ensures c.if-tag_of-lt-TAG_STRING.false c.seal.ensures
