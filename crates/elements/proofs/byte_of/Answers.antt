-- `byte_of` meets its contract: by division (`unit_byte`).
-- Assumes nothing.
use Rattle.elements.proofs.Units.{unit_byte}
use Rattle.elements.proofs.byte_of.Goals as goal

pub returns : goal.returns
returns c = unit_byte c.args.w _ c.args.j c.unit.ensures c.requires
