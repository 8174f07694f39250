-- `read_entry` meets its contract: test by test (`Reading`).
-- Assumes nothing.
use mathlib.Core.Path.{refl}
use native.Mathlib.Omega.{arith}
use Rattle.floor.proofs.Reading.{not_so_deep, time_else, place_is_else, number_is_else, number_too_great, time_too_great, string_here, place_too_short, place_too_long, bytes_here, entry_there}
use Rattle.floor.proofs.read_entry.Goals as goal

pub returns-then-m-ne3 : goal.returns-then-m-ne3
returns-then-m-ne3 c = not_so_deep refl c.if-m-ne3.true

pub returns-then-tag_of-ne-TAG_INTEGER : goal.returns-then-tag_of-ne-TAG_INTEGER
returns-then-tag_of-ne-TAG_INTEGER c = time_else c.if-m-ne3.false refl c.tag_of.ensures c.if-tag_of-ne-TAG_INTEGER.true

pub returns-then-tag_of-ne-TAG_STRING : goal.returns-then-tag_of-ne-TAG_STRING
returns-then-tag_of-ne-TAG_STRING c = place_is_else c.if-m-ne3.false refl c.tag_of-2.ensures c.if-tag_of-ne-TAG_STRING.true

pub returns-then-tag_of-ne-TAG_INTEGER-2 : goal.returns-then-tag_of-ne-TAG_INTEGER-2
returns-then-tag_of-ne-TAG_INTEGER-2 c = number_is_else c.if-m-ne3.false refl c.tag_of-3.ensures c.if-tag_of-ne-TAG_INTEGER-2.true

pub returns-then-number-gt-GREATEST : goal.returns-then-number-gt-GREATEST
returns-then-number-gt-GREATEST c = number_too_great c.if-m-ne3.false refl c.tag_of-3.ensures c.if-tag_of-ne-TAG_INTEGER-2.false c.if-number-gt-GREATEST.true

pub returns-then-time-gt-GREATEST : goal.returns-then-time-gt-GREATEST
returns-then-time-gt-GREATEST c = time_too_great c.if-m-ne3.false refl c.tag_of.ensures c.if-tag_of-ne-TAG_INTEGER.false c.if-time-gt-GREATEST.true

pub current_length-size-requires : goal.current_length-size-requires
current_length-size-requires c = (omega (arith, c.if-m-ne3.false), string_here c.if-m-ne3.false c.tag_of-2.ensures c.if-tag_of-ne-TAG_STRING.false c.requires)

pub returns-then-size-lt1 : goal.returns-then-size-lt1
returns-then-size-lt1 c = place_too_short c.if-m-ne3.false c.tag_of-2.ensures c.if-tag_of-ne-TAG_STRING.false c.current_length-size.ensures refl c.if-size-lt1.true

pub returns-then-size-gt-PLACE_MOST : goal.returns-then-size-gt-PLACE_MOST
returns-then-size-gt-PLACE_MOST c = place_too_long c.if-m-ne3.false c.tag_of-2.ensures c.if-tag_of-ne-TAG_STRING.false c.current_length-size.ensures refl c.if-size-gt-PLACE_MOST.true

pub read_bytes-requires : goal.read_bytes-requires
read_bytes-requires c = (omega (arith, c.if-m-ne3.false), c.if-size-gt-PLACE_MOST.false, bytes_here c.if-m-ne3.false c.tag_of-2.ensures c.if-tag_of-ne-TAG_STRING.false c.current_length-size.ensures c.requires)

pub returns : goal.returns
returns c = entry_there c.if-m-ne3.false c.tag_of-2.ensures c.if-tag_of-ne-TAG_STRING.false c.current_length-size.ensures c.if-size-lt1.false c.if-size-gt-PLACE_MOST.false c.tag_of-3.ensures c.if-tag_of-ne-TAG_INTEGER-2.false c.tag_of.ensures c.if-tag_of-ne-TAG_INTEGER.false c.if-number-gt-GREATEST.false c.if-time-gt-GREATEST.false c.read_bytes.auto.out c.read_bytes.ensures
