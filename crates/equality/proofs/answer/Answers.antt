-- `equality::answer` meets its contract: two items go, and the truth value is pushed.
-- Assumes nothing.
use mathlib.Core.Path.{refl}
use native.Mathlib.Omega.{arith}
use Rattle.machine.proofs.Outcomes.{elsewhere}
use Rattle.equality.proofs.Answers.{room_after, answers}
use Rattle.equality.proofs.answer.Goals as goal

pub drop-one-requires : goal.drop-one-requires
drop-one-requires c = (omega (arith, c.requires.0), c.requires.1)

pub drop-two-requires : goal.drop-two-requires
drop-two-requires c = (omega (arith, c.requires.0, c.drop-one.ensures.depth_value), elsewhere c.drop-one.ensures.moves_heap c.requires.1)

pub push_scalar-requires : goal.push_scalar-requires
push_scalar-requires c = room_after c.requires.0 c.requires.1 (omega (arith, c.drop-one.ensures.depth_value, c.drop-two.ensures.depth_value))

pub returns : goal.returns
returns c = answers _ refl c.drop-one.ensures.moves_heap c.drop-two.ensures.moves_heap c.push_scalar.ensures.pushes
