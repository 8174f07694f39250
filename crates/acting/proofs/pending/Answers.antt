-- `acting::pending` meets its contract: by the tag of what is pending.
-- Assumes nothing.
use Rattle.turns.proofs.Fitting.{turn_frames, items_frames}
use Rattle.operators.proofs.Named.{frames_all}
use Rattle.acting.proofs.Choosing.{settled_does}
use Rattle.acting.proofs.Executing.{operator_ready, operator_does, binding_all}
use Rattle.acting.proofs.pending.Goals as goal

pub rare-requires : goal.rare-requires
rare-requires c = let w = operator_ready c.requires.3.1 c.requires.0 c.requires.1 c.forget_frame-left.ensures.forgets_frame c.if-tag-eq-TAG_OPERATOR.true in
    (c.requires.2.pending c.requires.1 c.if-tag-eq-TAG_OPERATOR.true, w.0, w.1)

pub returns-then-tag-eq-TAG_OPERATOR : goal.returns-then-tag-eq-TAG_OPERATOR
returns-then-tag-eq-TAG_OPERATOR c = operator_does _ c.requires.0 c.requires.1 c.if-tag-eq-TAG_OPERATOR.true c.forget_frame-left.ensures.forgets_frame (settled_does c.settled.ensures c.rare.ensures)

pub name_pending-requires : goal.name_pending-requires
name_pending-requires c = (c.requires.0, c.requires.1, c.if-tag-eq-TAG_EXECUTABLE.true, (_, _, _, c.requires.3.1))

pub returns-then-tag-eq-TAG_EXECUTABLE : goal.returns-then-tag-eq-TAG_EXECUTABLE
returns-then-tag-eq-TAG_EXECUTABLE c = binding_all _ c.name_pending.ensures _ _

pub start-requires : goal.start-requires
start-requires c = (c.requires.0, c.requires.1, c.if-tag-eq-TAG_PROCEDURE.true, (_, _, _, _, c.requires.3.1))

pub returns-then-tag-eq-TAG_PROCEDURE : goal.returns-then-tag-eq-TAG_PROCEDURE
returns-then-tag-eq-TAG_PROCEDURE c = frames_all _ (turn_frames _ c.start.ensures _) _ _

pub push_top-requires : goal.push_top-requires
push_top-requires c = (c.requires.0, c.requires.1, (c.if-tag-eq-TAG_OPERATOR.false, c.if-tag-eq-TAG_EXECUTABLE.false), c.if-tag-eq-TAG_PROCEDURE.false, (_, _, _, _, c.requires.3.1))

pub returns : goal.returns
returns c = frames_all _ (items_frames _ c.push_top.ensures _) _ _
