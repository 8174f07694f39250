-- `frames::advance` meets its contract: the next link leads to the cell of the element after.
-- Assumes nothing.
use Rattle.frames.proofs.Running.{run_at, cell_room, advances}
use native.Mathlib.Omega.{arith}
use Rattle.frames.proofs.advance.Goals as goal

pub next-next-requires : goal.next-next-requires
next-next-requires c = let R = c.requires.3.4 in let x = run_at R _ (omega (arith, c.requires.0)) c.requires.1 in cell_room R _ (omega (arith, c.requires.0)) x.0 x.1 x.2 c.requires.2

pub returns : goal.returns
returns c = record { advances = advances _ _ c.requires.0 c.requires.2 c.next-next.ensures c.reset_top.ensures.resets; turned = (_, _, c.reset_top.ensures.words) }
