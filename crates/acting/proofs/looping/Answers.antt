-- `acting::looping` meets its contract: by the kind of the loop.
-- Assumes nothing.
use native.Mathlib.Omega.{arith}
use Rattle.turns.proofs.Fitting.{turn_frames}
use Rattle.acting.proofs.looping.Goals as goal

pub loop_turn-requires : goal.loop_turn-requires
loop_turn-requires c = (c.requires.0, c.if-kind-eq-LOOP.true, (_, c.requires.2.0, c.requires.2.1, c.requires.2.2, c.requires.2.3))

pub returns-then-kind-eq-LOOP : goal.returns-then-kind-eq-LOOP
returns-then-kind-eq-LOOP c = turn_frames _ c.loop_turn.ensures _

pub repeat_turn-requires : goal.repeat_turn-requires
repeat_turn-requires c = (c.requires.0, c.if-kind-eq-REPEAT.true, (_, c.requires.2.0, c.requires.2.1, c.requires.2.2, c.requires.2.3))

pub returns-then-kind-eq-REPEAT : goal.returns-then-kind-eq-REPEAT
returns-then-kind-eq-REPEAT c = turn_frames _ c.repeat_turn.ensures _

pub for_turn-requires : goal.for_turn-requires
for_turn-requires c = let pre = c.requires in
    (pre.0, omega (arith, pre.1, c.if-kind-eq-LOOP.false, c.if-kind-eq-REPEAT.false), pre.2)

pub returns : goal.returns
returns c = c.for_turn.ensures
