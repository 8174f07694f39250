-- `convert` meets its contract: the text and the string's maximum decide, and the text and its zero make up what the definition writes (`convert_good`).
-- Assumes nothing.
use Rattle.conversions.proofs.Converting.{has_string, convert_long, convert_room, convert_string_left, convert_good}
use native.Mathlib.Omega.{arith}
use Rattle.conversions.proofs.convert.Goals as goal

pub overflow_cast-n : goal.overflow_cast-n
overflow_cast-n c = omega (arith, c.requires.1)

pub maximum-requires : goal.maximum-requires
maximum-requires c = (omega (arith, c.requires.0), has_string c.requires.0 c.requires.2 c.requires.3)

pub returns-then-maximum-n : goal.returns-then-maximum-n
returns-then-maximum-n c = convert_long c.requires.0 c.requires.2 c.maximum.ensures _ c.if-maximum-n.true

pub put_text-requires : goal.put_text-requires
put_text-requires c = (c.requires.0, c.requires.1, convert_room c.requires.0 c.requires.2 c.maximum.ensures c.if-maximum-n.false c.requires.3)

pub end_text-requires : goal.end_text-requires
end_text-requires c = (c.requires.0, convert_string_left c.requires.0 c.requires.2 c.maximum.ensures _ c.requires.3 c.put_text.ensures)

pub returns : goal.returns
returns c = convert_good c.requires.0 c.requires.2 c.maximum.ensures _ c.if-maximum-n.false c.put_text.ensures c.end_text.ensures c.end_text.auto.stack
