-- `getinterval` meets its contract: the tag and the two integers decide between the errors and what is done for strings and for arrays.
-- Assumes nothing.
use mathlib.Core.Path.{refl, subst}
use Rattle.elements.specs.Elements.{ItemTag}
use Rattle.interval_operators.proofs.Splitting.{nine}
use Rattle.interval_operators.proofs.Getting.{get_short, get_no_object, get_no_integers, get_negative_start, get_negative_count, integers}
use borrow.Author.Rules.{rules}
use Rattle.std.proofs.lemmas.Result.{err_from_is_err_and}
use Rattle.interval_operators.proofs.getinterval.Goals as goal

pub returns-in_err-needs : goal.returns-in_err-needs
returns-in_err-needs c =
    let p = err_from_is_err_and c.from_residual.result c.from_residual.ensures.1 in
    rw (p.1, p.2, c.in_err-needs.ensures.1) (get_short c.in_err-needs.ensures.0)

pub returns-then-tag-lt-TAG_STRING : goal.returns-then-tag-lt-TAG_STRING
returns-then-tag-lt-TAG_STRING c = get_no_object c.in_ok-needs.ensures c.tag_of-tag.ensures c.if-tag-lt-TAG_STRING.true

pub returns-then-start-ge-SIGN : goal.returns-then-start-ge-SIGN
returns-then-start-ge-SIGN c = get_negative_start c.in_ok-needs.ensures c.tag_of-tag.ensures c.if-tag-lt-TAG_STRING.false (integers c.two_ints.ensures.fetches_two c.in_ok-start.was) c.if-start-ge-SIGN.true (search rules)

pub returns-then-n-ge-SIGN : goal.returns-then-n-ge-SIGN
returns-then-n-ge-SIGN c = get_negative_count c.in_ok-needs.ensures c.tag_of-tag.ensures c.if-tag-lt-TAG_STRING.false (integers c.two_ints.ensures.fetches_two c.in_ok-start.was) c.if-start-ge-SIGN.false c.if-n-ge-SIGN.true (search rules)

pub get_bytes-requires : goal.get_bytes-requires
get_bytes-requires c = (c.in_ok-needs.ensures, c.if-start-ge-SIGN.false, c.if-n-ge-SIGN.false, subst (ItemTag _ _ _) c.if-tag-eq-TAG_STRING.true c.tag_of-tag.ensures, integers c.two_ints.ensures.fetches_two c.in_ok-start.was, c.requires)

pub returns-then-tag-eq-TAG_STRING : goal.returns-then-tag-eq-TAG_STRING
returns-then-tag-eq-TAG_STRING c = c.get_bytes.ensures

pub get_elements-requires : goal.get_elements-requires
get_elements-requires c = (c.in_ok-needs.ensures, c.if-start-ge-SIGN.false, c.if-n-ge-SIGN.false, nine c.if-tag-lt-TAG_STRING.false c.if-tag-eq-TAG_STRING.false refl, c.tag_of-tag.ensures, integers c.two_ints.ensures.fetches_two c.in_ok-start.was, c.requires)

pub returns-in_err-start : goal.returns-in_err-start
returns-in_err-start c =
    let p = err_from_is_err_and c.from_residual-in_err-start.result c.from_residual-in_err-start.ensures.1 in
    rw (p.1, p.2) (get_no_integers c.in_ok-needs.ensures c.tag_of-tag.ensures c.if-tag-lt-TAG_STRING.false c.two_ints.ensures.fetches_two c.in_err-start.was)

pub returns : goal.returns
returns c = c.get_elements.ensures
