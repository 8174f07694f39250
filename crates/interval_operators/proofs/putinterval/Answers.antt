-- `putinterval` meets its contract: the tags of the operands decide between the errors of kind and what is done for strings and for arrays.
-- Assumes nothing.
use Rattle.interval_operators.proofs.Putting.{put_short, put_no_target, put_no_start, put_no_source, put_text_array, put_array_text, put_arrays, put_strings}
use Rattle.std.proofs.lemmas.Result.{err_from_is_err_and}
use Rattle.interval_operators.proofs.putinterval.Goals as goal

pub returns-in_err-needs : goal.returns-in_err-needs
returns-in_err-needs c =
    let p = err_from_is_err_and c.from_residual.result c.from_residual.ensures.1 in
    rw (p.1, p.2, c.in_err-needs.ensures.1) (put_short c.in_err-needs.ensures.0)

pub returns-then-into-lt-TAG_STRING : goal.returns-then-into-lt-TAG_STRING
returns-then-into-lt-TAG_STRING c = put_no_target c.in_ok-needs.ensures c.tag_of-into.ensures c.if-into-lt-TAG_STRING.true

pub returns-then-tag_of-ne-TAG_INTEGER : goal.returns-then-tag_of-ne-TAG_INTEGER
returns-then-tag_of-ne-TAG_INTEGER c = put_no_start c.in_ok-needs.ensures c.tag_of-into.ensures c.if-into-lt-TAG_STRING.false c.tag_of.ensures c.if-tag_of-ne-TAG_INTEGER.true

pub returns-then-from-lt-TAG_STRING : goal.returns-then-from-lt-TAG_STRING
returns-then-from-lt-TAG_STRING c = put_no_source c.in_ok-needs.ensures c.tag_of-into.ensures c.if-into-lt-TAG_STRING.false c.tag_of.ensures c.if-tag_of-ne-TAG_INTEGER.false c.tag_of-from.ensures c.if-from-lt-TAG_STRING.true

pub returns-then-from-ne-TAG_STRING : goal.returns-then-from-ne-TAG_STRING
returns-then-from-ne-TAG_STRING c = put_text_array c.in_ok-needs.ensures c.tag_of-into.ensures c.if-into-lt-TAG_STRING.false c.tag_of.ensures c.if-tag_of-ne-TAG_INTEGER.false c.tag_of-from.ensures c.if-from-lt-TAG_STRING.false c.if-into-eq-TAG_STRING.true c.if-from-ne-TAG_STRING.true

pub put_bytes-requires : goal.put_bytes-requires
put_bytes-requires c = put_strings c.in_ok-needs.ensures c.tag_of-into.ensures c.if-into-lt-TAG_STRING.false c.tag_of.ensures c.if-tag_of-ne-TAG_INTEGER.false c.tag_of-from.ensures c.if-from-lt-TAG_STRING.false c.if-into-eq-TAG_STRING.true c.if-from-ne-TAG_STRING.false c.requires

pub returns-then-into-eq-TAG_STRING : goal.returns-then-into-eq-TAG_STRING
returns-then-into-eq-TAG_STRING c = c.put_bytes.ensures

pub returns-then-from-eq-TAG_STRING : goal.returns-then-from-eq-TAG_STRING
returns-then-from-eq-TAG_STRING c = put_array_text c.in_ok-needs.ensures c.tag_of-into.ensures c.if-into-lt-TAG_STRING.false c.tag_of.ensures c.if-tag_of-ne-TAG_INTEGER.false c.tag_of-from.ensures c.if-from-lt-TAG_STRING.false c.if-into-eq-TAG_STRING.false c.if-from-eq-TAG_STRING.true

pub put_elements-requires : goal.put_elements-requires
put_elements-requires c = put_arrays c.in_ok-needs.ensures c.tag_of-into.ensures c.if-into-lt-TAG_STRING.false c.tag_of.ensures c.if-tag_of-ne-TAG_INTEGER.false c.tag_of-from.ensures c.if-from-lt-TAG_STRING.false c.if-into-eq-TAG_STRING.false c.if-from-eq-TAG_STRING.false c.requires

pub returns : goal.returns
returns c = c.put_elements.ensures
