-- `seal` meets its contract: the bit is set where it is 0, and nothing carries into the bits above it (`seals`); else nothing is written.
-- Assumes nothing.
use Rattle.heap.proofs.Sealings.{seals, seals_again}
use Rattle.heap.proofs.seal.Goals as goal

pub returns-then-w-eq0 : goal.returns-then-w-eq0
returns-then-w-eq0 c = seals c.get-w.ensures c.if-w-eq0.true c.put.ensures

pub returns-else-w-eq0 : goal.returns-else-w-eq0
returns-else-w-eq0 c = seals_again c.get-w.ensures c.if-w-eq0.false
