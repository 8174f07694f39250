-- `get` meets its contract: the checks that arrays and strings share, in the definition's order, and then the function of each.
-- Assumes nothing.
use Rattle.elements.specs.Elements.{ItemTag}
use mathlib.Core.Path.{subst}
use Rattle.array_operators.proofs.Objects.{an_integer_is, no_integer, array_tag_lem}
use Rattle.array_operators.proofs.Getting.{get_short, get_type, get_index, get_below}
use borrow.Author.Rules.{rules}
use Rattle.std.proofs.lemmas.Result.{err_from_is_err_and}
use mathlib.Core.Path.{refl}
use native.Mathlib.Omega.{arith}
use Rattle.array_operators.proofs.get.Goals as goal

pub returns-in_err-needs : goal.returns-in_err-needs
returns-in_err-needs c =
    let p = err_from_is_err_and c.from_residual.result c.from_residual.ensures.1 in
    rw (p.1, p.2, c.in_err-needs.ensures.1) (get_short c.in_err-needs.ensures.0)

pub returns-then-tag-lt-TAG_STRING : goal.returns-then-tag-lt-TAG_STRING
returns-then-tag-lt-TAG_STRING c = get_type c.in_ok-needs.ensures c.tag_of-tag.ensures c.if-tag-lt-TAG_STRING.true

pub returns-then-n-ge-SIGN : goal.returns-then-n-ge-SIGN
returns-then-n-ge-SIGN c = get_below c.in_ok-needs.ensures c.tag_of-tag.ensures c.if-tag-lt-TAG_STRING.false (an_integer_is _ (omega (arith, c.in_ok-needs.ensures)) c.in_ok-n.ensures.0 c.in_ok-n.ensures.1) refl c.if-n-ge-SIGN.true (search rules)

pub get_from_string-requires : goal.get_from_string-requires
get_from_string-requires c = (c.in_ok-needs.ensures, c.if-n-ge-SIGN.false, subst (ItemTag _ _ _) c.if-tag-eq-TAG_STRING.true c.tag_of-tag.ensures, an_integer_is _ (omega (arith, c.in_ok-needs.ensures)) c.in_ok-n.ensures.0 c.in_ok-n.ensures.1, c.requires)

pub get_from_array-requires : goal.get_from_array-requires
get_from_array-requires c = (c.in_ok-needs.ensures, c.if-n-ge-SIGN.false, array_tag_lem c.tag_of-tag.ensures c.if-tag-lt-TAG_STRING.false c.if-tag-eq-TAG_STRING.false, an_integer_is _ (omega (arith, c.in_ok-needs.ensures)) c.in_ok-n.ensures.0 c.in_ok-n.ensures.1, c.requires)

pub returns-in_err-n : goal.returns-in_err-n
returns-in_err-n c =
    let p = err_from_is_err_and c.from_residual-in_err-n.result c.from_residual-in_err-n.ensures.1 in
    rw (p.1, p.2, c.in_err-n.ensures.1) (get_index c.in_ok-needs.ensures c.tag_of-tag.ensures c.if-tag-lt-TAG_STRING.false (no_integer _ (omega (arith, c.in_ok-needs.ensures)) c.in_err-n.ensures.0) refl
    )
