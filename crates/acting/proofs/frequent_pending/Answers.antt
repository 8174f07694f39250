-- `acting::frequent_pending` meets its contract: by the tag and the number of what is pending.
-- Assumes nothing.
use native.Mathlib.Omega.{arith}
use Rattle.acting.proofs.Choosing.{pending_executes, pending_other}
use Rattle.acting.proofs.frequent_pending.Goals as goal

pub returns-then-exec-k-ne-TAG_OPERATOR : goal.returns-then-exec-k-ne-TAG_OPERATOR
returns-then-exec-k-ne-TAG_OPERATOR c = pending_other c.requires.1 (λ four. absurd (c.if-exec-k-ne-TAG_OPERATOR.true four))

pub returns-then-number-ge-RARE : goal.returns-then-number-ge-RARE
returns-then-number-ge-RARE c = pending_other c.requires.1 (λ four. c.if-number-ge-RARE.true)

pub returns : goal.returns
returns c = pending_executes c.requires.0 c.requires.1 c.if-exec-k-ne-TAG_OPERATOR.false (omega (arith, c.if-number-ge-RARE.false)) c.forget_frame.ensures.forgets_frame
