-- `acting::other` meets its contract: by the kind of the topmost slot.
-- Assumes nothing.
use native.Mathlib.Omega.{arith}
use Rattle.operators.proofs.Named.{frames_all}
use Rattle.acting.proofs.other.Goals as goal

pub pending-requires : goal.pending-requires
pending-requires c = (c.requires.0, c.if-kind-eq-PENDING.true, c.requires.1, c.requires.2)

pub returns-then-kind-eq-PENDING : goal.returns-then-kind-eq-PENDING
returns-then-kind-eq-PENDING c = c.pending.ensures

pub running-requires : goal.running-requires
running-requires c = (c.requires.0, c.if-kind-eq-RUNNING.true, c.requires.1, c.requires.2)

pub returns-then-kind-eq-RUNNING : goal.returns-then-kind-eq-RUNNING
returns-then-kind-eq-RUNNING c = c.running.ensures

pub looping-requires : goal.looping-requires
looping-requires c = (c.requires.0, omega (arith, c.if-kind-eq-PENDING.false, c.if-kind-eq-RUNNING.false), (_, _, _, c.requires.2.1))

pub returns : goal.returns
returns c = frames_all _ c.looping.ensures _ _
