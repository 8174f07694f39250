-- `acting::next_frequent` meets its contract: by the kind of the topmost slot.
-- Assumes nothing.
use Rattle.acting.proofs.next_frequent.Goals as goal

pub returns-then-kind-eq-PENDING : goal.returns-then-kind-eq-PENDING
returns-then-kind-eq-PENDING c = c.frequent_pending.ensures _
