-- `token::quoted::piece_at` meets its contract. The loop's invariant: up to i the string gave no byte, and the machine is in the state.
-- Assumes nothing.
use Rattle.token.proofs.Escapes.{reading_starts, reading_ends, reading_byte, reading_go, reading_close, reading_cut, reading_bad}
use native.Mathlib.Omega.{arith}
use Rattle.token.proofs.quoted.piece_at.Goals as goal

pub loop-i-init : goal.loop-i-init
loop-i-init c = reading_starts _ _ c.requires

pub returns-in-Byte : goal.returns-in-Byte
returns-in-Byte c = reading_byte c.loop-i.invariant (omega arith) c.act_on.ensures c.in-Byte.is

pub loop-i-preserved : goal.loop-i-preserved
loop-i-preserved c = reading_go c.loop-i.invariant (omega arith) c.act_on.ensures c.in-Go.is

pub returns-in-Close : goal.returns-in-Close
returns-in-Close c = reading_close c.loop-i.invariant (omega arith) c.act_on.ensures c.in-Close.is

pub returns-in-Cut : goal.returns-in-Cut
returns-in-Cut c = reading_cut c.loop-i.invariant (omega arith) c.act_on.ensures c.in-Cut.is

pub returns-in-Bad : goal.returns-in-Bad
returns-in-Bad c = reading_bad c.loop-i.invariant (omega arith) c.act_on.ensures c.in-Bad.is

pub returns : goal.returns
returns c = reading_ends c.loop-i.invariant (omega arith)
