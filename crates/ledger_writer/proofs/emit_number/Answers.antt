-- `emit_number` meets its contract: the number is written where it is live, and else its length is counted.
-- Assumes nothing.
use native.Mathlib.Omega.{arith}
use Rattle.ledger_writer.proofs.Emits.{live_emits, measures}
use Rattle.ledger_writer.proofs.emit_number.Goals as goal

pub write_decimal-requires : goal.write_decimal-requires
write_decimal-requires c = c.requires.fits c.if-live.true

pub shape_of-text-then-live : goal.shape_of-text-then-live
shape_of-text-then-live c = c.write_decimal.auto.out

pub returns-then-live : goal.returns-then-live
returns-then-live c = live_emits c.if-live.true c.write_decimal.ensures

pub overflow_add-result : goal.overflow_add-result
overflow_add-result c = omega (arith, c.requires.small, c.decimal_length.ensures)

pub returns : goal.returns
returns c = measures c.if-live.false (omega (arith, c.decimal_length.ensures))
