-- `leave_result` meets its contract: the exchange and the two drops in turn.
-- Assumes nothing.
use native.Mathlib.Omega.{arith}
use Rattle.machine.proofs.Outcomes.{elsewhere, stack_heap}
use Rattle.interval_operators.proofs.Leaving.{result_stays}
use Rattle.interval_operators.proofs.leave_result.Goals as goal

pub drop-one-requires : goal.drop-one-requires
drop-one-requires c = (omega (arith, c.requires.0, c.swap-turned.ensures.depth_value), elsewhere (stack_heap c.swap-turned.ensures.moves_stack) c.requires.1)

pub drop-requires : goal.drop-requires
drop-requires c = (omega (arith, c.requires.0, c.swap-turned.ensures.depth_value, c.drop-one.ensures.depth_value), elsewhere c.drop-one.ensures.moves_heap (elsewhere (stack_heap c.swap-turned.ensures.moves_stack) c.requires.1))

pub returns : goal.returns
returns c = result_stays c.swap-turned.ensures.moves_stack c.drop-one.ensures.moves_heap c.drop.ensures.moves_heap
