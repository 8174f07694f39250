-- `fill` meets its contract: the item's words name its header, and the string is filled by it (`item_filled`).
-- Assumes nothing.
use native.Mathlib.Omega.{arith}
use Rattle.strings.proofs.Filling.{item_room_lem, item_filled}
use Rattle.strings.proofs.fill.Goals as goal

pub fill_at-requires : goal.fill_at-requires
fill_at-requires c = item_room_lem _ (omega (arith, c.requires.0)) c.requires.1

pub returns : goal.returns
returns c = item_filled _ (omega (arith, c.requires.0)) c.requires.1 c.fill_at.ensures
