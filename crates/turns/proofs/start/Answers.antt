-- `turns::start` meets its contract: by its tag the pending value is a procedure, which starts at its first element.
-- Assumes nothing.
use Rattle.turns.proofs.Procedures.{procedure_starts}
use Rattle.turns.proofs.start.Goals as goal

pub returns : goal.returns
returns c = let pre = c.requires in
    procedure_starts pre.0 pre.1 pre.2 c.run_top.ensures c.run_top.auto.exec
