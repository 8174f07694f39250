-- `forf_machine::titles::key_of` meets its contract: each way to an answer by its law.
-- Assumes nothing.
use native.Mathlib.Omega.{arith}
use Rattle.forf_machine.proofs.Naming.{keyed_begin, key_room, keyed_again, keyed_end}
use Rattle.forf_machine.proofs.titles.key_of.Goals as goal

pub loop-b-init : goal.loop-b-init
loop-b-init c = keyed_begin _

pub overflow_mul-key : goal.overflow_mul-key
overflow_mul-key c = record { fits = omega (arith, key_room c.loop-b.invariant c.requires c.loop-b-test.true) }

pub loop-b-preserved : goal.loop-b-preserved
loop-b-preserved c = rw c.from.ensures (keyed_again c.loop-b.invariant c.requires c.loop-b-test.true (c.type_inv.word c.loop-b.b-index).fits)

pub returns : goal.returns
returns c = keyed_end c.loop-b.invariant c.loop-b-test.false
