-- `acting::act` meets its contract: a frequent operator is executed, and its slot put back if it fails; else the slot acts otherwise.
-- Assumes nothing.
use native.Mathlib.Omega.{arith}
use Rattle.acting.proofs.Choosing.{frequent_ready, frequent_done, frequent_failed, other_ready, other_does}
use Rattle.acting.proofs.act.Goals as goal

pub next_frequent-requires : goal.next_frequent-requires
next_frequent-requires c = (c.requires.0, (_, _, _, _, c.requires.1.1))

pub frequent-requires : goal.frequent-requires
frequent-requires c = frequent_ready c.next_frequent.ensures c.in-Some.is c.requires.1

pub reset_top-requires : goal.reset_top-requires
reset_top-requires c = (c.requires.0, omega (arith, c.frequent.auto.exec, c.next_frequent.auto.exec, c.requires.1.1.rooms.exec_fits))

pub other-requires : goal.other-requires
other-requires c = let w = other_ready c.next_frequent.ensures c.in-None.is c.requires.1 in (c.requires.0, w.0, w.1)

pub returns-in-Ok : goal.returns-in-Ok
returns-in-Ok c = frequent_done c.next_frequent.ensures c.in-Some.is c.frequent.ensures c.in-Ok.is

pub returns-in-Err : goal.returns-in-Err
returns-in-Err c = frequent_failed c.next_frequent.ensures c.in-Some.is c.frequent.ensures c.in-Err.is c.reset_top.ensures.words

pub returns-in-None : goal.returns-in-None
returns-in-None c = other_does c.next_frequent.ensures c.in-None.is c.other.ensures
