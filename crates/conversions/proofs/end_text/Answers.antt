-- `end_text` meets its contract: what its three primitives do one after another is `ended`.
-- Assumes nothing.
use Rattle.conversions.proofs.Putting.{end_room, end_good}
use native.Mathlib.Omega.{arith}
use Rattle.conversions.proofs.end_text.Goals as goal

pub drop-requires : goal.drop-requires
drop-requires c = (omega (arith, c.requires.0, c.swap-turned.ensures.depth_value), end_room _ c.put_zero.ensures c.swap-turned.ensures.moves_stack c.requires.1)

pub returns : goal.returns
returns c = end_good _ c.put_zero.ensures c.swap-turned.ensures.moves_stack c.drop.ensures.moves_heap
