-- `forf_machine::duplicate` meets its contract: each way to an answer by its law.
-- Assumes nothing.
use Rattle.forf_machine.proofs.Branching.{dup_fails, dup_done}
use Rattle.forf_machine.proofs.duplicate.Goals as goal

pub returns-then-m-lt1 : goal.returns-then-m-lt1
returns-then-m-lt1 c = λ e mem. dup_fails _ _ e mem c.if-m-lt1.true

pub returns : goal.returns
returns c = λ e mem. dup_done _ _ e mem c.if-m-lt1.false c.push.ensures
