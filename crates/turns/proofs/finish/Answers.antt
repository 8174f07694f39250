-- `turns::finish` meets its contract: where no element is left, the definition finds none at the procedure's place.
-- Assumes nothing.
use Rattle.turns.proofs.Procedures.{procedure_ends}
use Rattle.turns.proofs.finish.Goals as goal

pub returns : goal.returns
returns c = let pre = c.requires in
    procedure_ends pre.0 pre.1 pre.2 c.drop_frame.ensures.moves_frames
