-- `drop_operands` meets its contract: the three drops in turn.
-- Assumes nothing.
use native.Mathlib.Omega.{arith}
use Rattle.machine.proofs.Outcomes.{elsewhere}
use Rattle.interval_operators.proofs.Leaving.{three_gone}
use Rattle.interval_operators.proofs.drop_operands.Goals as goal

pub drop-one-requires : goal.drop-one-requires
drop-one-requires c = (omega (arith, c.requires.0), c.requires.1)

pub drop-two-requires : goal.drop-two-requires
drop-two-requires c = (omega (arith, c.requires.0, c.drop-one.ensures.depth_value), elsewhere c.drop-one.ensures.moves_heap c.requires.1)

pub drop-requires : goal.drop-requires
drop-requires c = (omega (arith, c.requires.0, c.drop-one.ensures.depth_value, c.drop-two.ensures.depth_value), elsewhere c.drop-two.ensures.moves_heap (elsewhere c.drop-one.ensures.moves_heap c.requires.1))

pub returns : goal.returns
returns c = three_gone c.drop-one.ensures.moves_heap c.drop-two.ensures.moves_heap c.drop.ensures.moves_heap
