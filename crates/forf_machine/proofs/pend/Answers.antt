-- `forf_machine::pend` meets its contract: each way to an answer by its law.
-- Assumes nothing.
use mathlib.Core.Path.{refl}
use Rattle.forf_machine.proofs.Answering.{pend_full, pend_done}
use Rattle.forf_machine.proofs.pend.Goals as goal

pub returns-then-exec-frames : goal.returns-then-exec-frames
returns-then-exec-frames c = record { pends = λ script s mem R S. (pend_full R _ c.if-exec-frames.true, refl, refl) }

pub returns : goal.returns
returns c = record { pends = λ script s mem R S. pend_done R _ c.if-exec-frames.false S c.put.ensures }
