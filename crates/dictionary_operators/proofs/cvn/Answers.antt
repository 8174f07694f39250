-- `cvn` meets its contract: what it compares decides between the definition's errors and what `name_item` does, and the bytes that are read are the string's current ones.
-- Assumes nothing.
use Rattle.dictionary_operators.proofs.Converting.{cvn_short, cvn_mistyped, cvn_string, cvn_over, cvn_bytes, cvn_good}
use native.Mathlib.Omega.{arith}
use Rattle.dictionary_operators.proofs.cvn.Goals as goal

pub returns-then-m-lt1 : goal.returns-then-m-lt1
returns-then-m-lt1 c = cvn_short c.if-m-lt1.true

pub returns-then-stack-m-ne-TAG_STRING : goal.returns-then-stack-m-ne-TAG_STRING
returns-then-stack-m-ne-TAG_STRING c = cvn_mistyped c.if-m-lt1.false c.if-stack-m-ne-TAG_STRING.true

pub current_length-size-requires : goal.current_length-size-requires
current_length-size-requires c = (c.if-m-lt1.false, cvn_string c.if-m-lt1.false c.if-stack-m-ne-TAG_STRING.false c.requires)

pub returns-then-size-gt-NAME_MOST : goal.returns-then-size-gt-NAME_MOST
returns-then-size-gt-NAME_MOST c = cvn_over c.if-m-lt1.false c.if-stack-m-ne-TAG_STRING.false c.current_length-size.ensures c.if-size-gt-NAME_MOST.true

pub read_bytes-requires : goal.read_bytes-requires
read_bytes-requires c = (c.if-m-lt1.false, c.if-size-gt-NAME_MOST.false, cvn_bytes c.if-m-lt1.false c.if-stack-m-ne-TAG_STRING.false c.current_length-size.ensures c.requires)

pub returns : goal.returns
returns c = cvn_good c.if-m-lt1.false c.if-stack-m-ne-TAG_STRING.false c.current_length-size.ensures c.if-size-gt-NAME_MOST.false c.read_bytes.ensures (omega (arith, c.if-size-gt-NAME_MOST.false, c.read_bytes.auto.out)) _ c.name_item.ensures
