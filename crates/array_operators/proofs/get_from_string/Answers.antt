-- `get_from_string` meets its contract: the index against the maximum, and the byte pushed in place of both operands.
-- Assumes nothing.
use Rattle.array_operators.proofs.Getting.{get_beyond, get_byte_done}
use native.Mathlib.Omega.{arith}
use Rattle.elements.proofs.Tags.{string_there}
use Rattle.array_operators.proofs.get_from_string.Goals as goal

pub maximum-requires : goal.maximum-requires
maximum-requires c = (c.requires.0, string_there c.requires.2 c.requires.4)

pub returns-then-maximum-n : goal.returns-then-maximum-n
returns-then-maximum-n c = get_beyond c.requires.0 c.requires.1 c.requires.2 c.requires.3 c.maximum.ensures c.if-maximum-n.true

pub byte_or_zero-b-requires : goal.byte_or_zero-b-requires
byte_or_zero-b-requires c = (c.requires.0, string_there c.requires.2 c.requires.4)

pub push_scalar-requires : goal.push_scalar-requires
push_scalar-requires c = omega (arith, c.drop_items-left.ensures.depth_value, c.requires.0, c.requires.4.4.rooms.stack_fits)

pub returns : goal.returns
returns c = get_byte_done c.requires.0 c.requires.1 c.requires.2 c.requires.3 c.maximum.ensures c.if-maximum-n.false c.byte_or_zero-b.ensures c.drop_items-left.ensures.moves_heap c.push_scalar.ensures.pushes c.push_scalar.auto.stack
