-- `forf_c::reply_of` meets its contract: each way to an answer by its law.
-- Assumes nothing.
use Rattle.forf_c.proofs.Replying.{reply_as, refusal_as}
use Rattle.forf_c.proofs.reply_of.Goals as goal

pub returns-in-Ok : goal.returns-in-Ok
returns-in-Ok c = reply_as c.in-Ok.is

pub returns-in-Some : goal.returns-in-Some
returns-in-Some c = refusal_as c.in-Err.is c.number.ensures c.in-Some.is

pub returns-in-None : goal.returns-in-None
returns-in-None c = refusal_as c.in-Err.is c.number.ensures c.in-None.is
