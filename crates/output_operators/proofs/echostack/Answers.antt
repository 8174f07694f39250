-- `output_operators::echostack` meets its contract: the room decides between ioerror and the text of all items, which is written.
-- Assumes nothing.
use Rattle.output_operators.proofs.Stacks.{none_over, none_good, line_over, line_room, line_good}
use native.Mathlib.Omega.{arith}
use Rattle.output_operators.proofs.echostack.Goals as goal

pub returns-then-room-lt1 : goal.returns-then-room-lt1
returns-then-room-lt1 c = none_over c.if-m-eq0.true c.if-room-lt1.true

pub returns-then-m-eq0 : goal.returns-then-m-eq0
returns-then-m-eq0 c = none_good c.if-m-eq0.true c.if-room-lt1.false

pub write_stack-after-requires : goal.write_stack-after-requires
write_stack-after-requires c = (omega (arith, c.if-m-eq0.false), line_room c.stack_fits.ensures c.if-stack_fits.true c.requires)

pub returns-then-stack_fits : goal.returns-then-stack_fits
returns-then-stack_fits c = line_good c.stack_fits.ensures c.if-stack_fits.true c.requires c.write_stack-after.ensures

pub returns : goal.returns
returns c = line_over c.stack_fits.ensures c.if-stack_fits.false
