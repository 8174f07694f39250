-- `stack_operators::exchange` meets its contract: turning each part over and then both exchanges them.
-- Assumes nothing.
use Rattle.stack_operators.proofs.Reversing.{rolls}
use Rattle.stack_operators.proofs.exchange.Goals as goal

pub returns : goal.returns
returns c = rolls _ _ c.requires.1 c.reverse-a.ensures.moves_stack c.reverse-b.ensures.moves_stack c.reverse.ensures.moves_stack
