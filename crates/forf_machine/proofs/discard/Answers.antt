-- `forf_machine::discard` meets its contract: each way to an answer by its law.
-- Assumes nothing.
use Rattle.forf_machine.proofs.Branching.{pop_fails, pop_done}
use Rattle.forf_machine.proofs.discard.Goals as goal

pub returns-then-m-lt1 : goal.returns-then-m-lt1
returns-then-m-lt1 c = λ s e mem. pop_fails _ s e mem c.if-m-lt1.true

pub returns : goal.returns
returns c = λ s e mem. pop_done _ s e mem _ c.if-m-lt1.false c.with_depth.ensures
