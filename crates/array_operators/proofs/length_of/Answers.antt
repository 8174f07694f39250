-- `length_of` meets its contract: an object that is no string is an array, and each has its own reader.
-- Assumes nothing.
use Rattle.elements.specs.Elements.{ItemTag}
use mathlib.Core.Path.{subst}
use Rattle.elements.proofs.Tags.{array_there, string_there}
use Rattle.array_operators.proofs.Objects.{array_tag_lem, array_length, string_length}
use Rattle.array_operators.proofs.length_of.Goals as goal

pub current_length-requires : goal.current_length-requires
current_length-requires c = (c.requires.0, string_there (subst (ItemTag _ _ _) c.if-tag-eq-TAG_STRING.true c.requires.2) c.requires.3)

pub returns-then-tag-eq-TAG_STRING : goal.returns-then-tag-eq-TAG_STRING
returns-then-tag-eq-TAG_STRING c = string_length c.requires.0 (subst (ItemTag _ _ _) c.if-tag-eq-TAG_STRING.true c.requires.2) c.current_length.ensures

pub size_of-requires : goal.size_of-requires
size_of-requires c = (c.requires.0, array_there (array_tag_lem c.requires.2 c.requires.1 c.if-tag-eq-TAG_STRING.false) c.requires.3)

pub returns : goal.returns
returns c = array_length c.requires.0 (array_tag_lem c.requires.2 c.requires.1 c.if-tag-eq-TAG_STRING.false) c.size_of.ensures
