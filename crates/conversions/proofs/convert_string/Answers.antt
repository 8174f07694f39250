-- `convert_string` meets its contract: the current bytes are the first ones, so that copying them puts the text (`string_good`).
-- Assumes nothing.
use Rattle.conversions.proofs.Converting.{has_string, string_long, string_copies, string_left, string_good}
use Rattle.conversions.proofs.Putting.{somewhere}
use native.Mathlib.Omega.{arith}
use Rattle.conversions.proofs.convert_string.Goals as goal

pub maximum-most-requires : goal.maximum-most-requires
maximum-most-requires c = (omega (arith, c.requires.0), has_string c.requires.0 c.requires.1 (somewhere c.requires.3))

pub returns-then-most-n : goal.returns-then-most-n
returns-then-most-n c = string_long c.requires.0 c.requires.1 c.maximum-most.ensures c.requires.3 c.current_length-n.ensures c.requires.2 c.if-most-n.true

pub copy_bytes-requires : goal.copy_bytes-requires
copy_bytes-requires c = (omega (arith, c.requires.0), omega (arith, c.requires.0), string_copies c.requires.0 c.requires.1 c.maximum-most.ensures c.requires.3 c.current_length-n.ensures c.requires.2 c.if-most-n.false)

pub end_text-requires : goal.end_text-requires
end_text-requires c = (c.requires.0, string_left c.requires.0 c.requires.1 c.maximum-most.ensures c.requires.3 c.current_length-n.ensures c.requires.2 c.copy_bytes.ensures)

pub returns : goal.returns
returns c = string_good c.requires.0 c.requires.1 c.maximum-most.ensures c.requires.3 c.current_length-n.ensures c.requires.2 c.if-most-n.false c.copy_bytes.ensures c.end_text.ensures c.end_text.auto.stack
