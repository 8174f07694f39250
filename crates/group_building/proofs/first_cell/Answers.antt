-- `first_cell` meets its contract: an array that has elements has a cell 0, which is sought.
-- Assumes nothing.
use native.Mathlib.Omega.{arith}
use Rattle.group_building.proofs.first_cell.Goals as goal

pub returns-then-size-eq0 : goal.returns-then-size-eq0
returns-then-size-eq0 c = λ some. absurd (omega (arith, c.if-size-eq0.true, some))

pub seek-requires : goal.seek-requires
seek-requires c = c.requires (omega (arith, c.if-size-eq0.false))

pub returns : goal.returns
returns c = λ _ g e S l k z. c.seek.ensures g e S l k z
