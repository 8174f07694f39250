-- `forf_machine::exchange` meets its contract: each way to an answer by its law.
-- Assumes nothing.
use Rattle.forf_machine.proofs.Branching.{exch_fails, exch_done}
use Rattle.forf_machine.proofs.exchange.Goals as goal

pub returns-then-m-lt2 : goal.returns-then-m-lt2
returns-then-m-lt2 c = λ e mem. exch_fails _ _ e mem c.if-m-lt2.true

pub returns : goal.returns
returns c = let pre = c.requires in
    λ e mem. exch_done _ _ e mem c.if-m-lt2.false (pre) c.put.ensures c.put-2.ensures
