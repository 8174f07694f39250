-- `forf_machine::Machine::push` meets its contract: each way to an answer by its law.
-- Assumes nothing.
use mathlib.Core.Path.{refl}
use Rattle.forf_machine.proofs.Answering.{push_full, push_done}
use Rattle.forf_machine.proofs.Machine.push.Goals as goal

pub returns-then-stack-depth : goal.returns-then-stack-depth
returns-then-stack-depth c = record { pushes = λ script e mem R S. (push_full R _ _ c.if-stack-depth.true, refl, refl) }

pub returns : goal.returns
returns c = record { pushes = λ script e mem R S. push_done R _ _ c.if-stack-depth.false S c.with_depth.ensures c.put.ensures }
