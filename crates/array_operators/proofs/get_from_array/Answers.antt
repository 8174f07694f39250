-- `get_from_array` meets its contract: the index against the size, and the element copied over the array.
-- Assumes nothing.
use native.Mathlib.Omega.{arith}
use Rattle.machine.proofs.Outcomes.{elsewhere}
use Rattle.array_operators.proofs.Getting.{get_past, get_element}
use Rattle.array_operators.proofs.Objects.{element_there}
use Rattle.elements.proofs.Tags.{array_there}
use Rattle.array_operators.proofs.get_from_array.Goals as goal

pub size_of-requires : goal.size_of-requires
size_of-requires c = (c.requires.0, array_there c.requires.2 c.requires.4)

pub returns-then-size_of-n : goal.returns-then-size_of-n
returns-then-size_of-n c = get_past c.requires.0 c.requires.1 c.requires.2 c.requires.3 c.size_of.ensures c.if-size_of-n.true

pub copy_element-found-requires : goal.copy_element-found-requires
copy_element-found-requires c = (c.requires.0, c.requires.0, element_there c.requires.2 c.requires.4 c.size_of.ensures c.if-size_of-n.false)

pub drop-requires : goal.drop-requires
drop-requires c = (omega (arith, c.requires.0, c.copy_element-found.ensures.depth_value), elsewhere c.copy_element-found.ensures.moves_heap c.requires.4)

pub returns : goal.returns
returns c = get_element c.requires.0 c.requires.1 c.requires.2 c.requires.3 c.size_of.ensures c.if-size_of-n.false c.copy_element-found.ensures.moves_heap c.drop.ensures.moves_heap c.copy_element-found.auto.stack
