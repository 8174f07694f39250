-- `machine::recount` meets its contract: the new object is counted, and then the old one, if there is one, is let go.
-- Assumes nothing.
use Rattle.machine.proofs.Recounting.{ready, let_go, nothing_to_let_go}
use Rattle.machine.proofs.recount.Goals as goal

pub increment-requires : goal.increment-requires
increment-requires c = let L = c.requires.3 in (c.requires.0, c.requires.1, _, L.full, L.alive)

pub release-requires : goal.release-requires
release-requires c = let L = c.requires.3 in ready L (record { risen = c.increment.ensures.0; same = c.increment.ensures.1; long = c.increment.auto.m }) c.if-old-ge-FIRST_OBJECT.true

pub returns-then-old-ge-FIRST_OBJECT : goal.returns-then-old-ge-FIRST_OBJECT
returns-then-old-ge-FIRST_OBJECT c = record {
  none_dead = c.release.ensures.0;
  changes = λ P g x L. let_go L (record { risen = c.increment.ensures.0; same = c.increment.ensures.1; long = c.increment.auto.m }) c.if-old-ge-FIRST_OBJECT.true c.release.ensures.1;
}

pub returns : goal.returns
returns c = record {
  none_dead = c.requires.3.none_dead;
  changes = λ P g x L. nothing_to_let_go L (record { risen = c.increment.ensures.0; same = c.increment.ensures.1; long = c.increment.auto.m }) c.if-old-ge-FIRST_OBJECT.false;
}
