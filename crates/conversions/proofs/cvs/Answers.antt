-- `cvs` meets its contract: where the string has no mark, `converted` of the text that was written is the definition's cvs (`cvs_good`), and a string is converted by itself.
-- Assumes nothing.
use Rattle.conversions.proofs.Converting.{cvs_short, cvs_mistyped, cvs_plain, cvs_locked, cvs_tagged, cvs_has_string, cvs_string, cvs_known, cvs_somewhere, cvs_good}
use borrow.Author.Rules.{rules}
use native.Mathlib.Omega.{arith}
use Rattle.elements.proofs.Tags.{object_there}
use Rattle.conversions.proofs.cvs.Goals as goal

pub returns-then-m-lt2 : goal.returns-then-m-lt2
returns-then-m-lt2 c = cvs_short c.if-m-lt2.true

pub returns-then-tag_of-ne-TAG_STRING : goal.returns-then-tag_of-ne-TAG_STRING
returns-then-tag_of-ne-TAG_STRING c = cvs_mistyped c.if-m-lt2.false c.tag_of.ensures c.if-tag_of-ne-TAG_STRING.true

pub is_sealed-requires : goal.is_sealed-requires
is_sealed-requires c = let pre = c.requires in
    (omega (arith, c.if-m-lt2.false), object_there c.tag_of.ensures (omega (arith, c.if-tag_of-ne-TAG_STRING.false)) (cvs_somewhere (pre)))

pub returns-then-is_sealed : goal.returns-then-is_sealed
returns-then-is_sealed c = cvs_locked c.if-m-lt2.false c.tag_of.ensures c.if-tag_of-ne-TAG_STRING.false c.is_sealed.ensures c.if-is_sealed.true

pub convert_string-requires : goal.convert_string-requires
convert_string-requires c = let pre = c.requires in
    (c.if-m-lt2.false, cvs_tagged c.tag_of.ensures c.if-tag_of-ne-TAG_STRING.false, cvs_plain c.is_sealed.ensures c.if-is_sealed.false, cvs_has_string c.if-m-lt2.false (rw c.item-value.ensures.0 at c.if-value-eq-TAG_STRING.true) (pre))

pub returns-then-value-eq-TAG_STRING : goal.returns-then-value-eq-TAG_STRING
returns-then-value-eq-TAG_STRING c = cvs_string _ c.convert_string.ensures

pub write_value-n-requires : goal.write_value-n-requires
write_value-n-requires c = let pre = c.requires in
    (search rules, c.if-value-eq-TAG_STRING.false, rw (c.item-value.ensures.0, c.item-value.ensures.1) (cvs_known c.if-m-lt2.false (pre)))

pub convert-requires : goal.convert-requires
convert-requires c = let pre = c.requires in
    (c.if-m-lt2.false, search rules, cvs_tagged c.tag_of.ensures c.if-tag_of-ne-TAG_STRING.false, cvs_somewhere (pre))

pub returns : goal.returns
returns c = cvs_good c.if-m-lt2.false (cvs_tagged c.tag_of.ensures c.if-tag_of-ne-TAG_STRING.false) (cvs_plain c.is_sealed.ensures c.if-is_sealed.false) (rw (c.item-value.ensures.0, c.item-value.ensures.1) at c.write_value-n.ensures.text_of) _ c.convert.ensures
