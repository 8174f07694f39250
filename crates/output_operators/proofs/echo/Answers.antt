-- `output_operators::echo` meets its contract: the tests decide between stackunderflow and ioerror, and the text and a line feed are written before the value goes.
-- Assumes nothing.
use Rattle.output_operators.proofs.Returns.{echo_short, echo_known, echo_over, echo_room, line_fits, echo_good, nowhere_else}
use native.Mathlib.Omega.{arith}
use Rattle.output_operators.proofs.echo.Goals as goal

pub returns-then-m-lt1 : goal.returns-then-m-lt1
returns-then-m-lt1 c = echo_short _ c.if-m-lt1.true

pub measure-size-requires : goal.measure-size-requires
measure-size-requires c = echo_known c.if-m-lt1.false c.requires

pub returns-then-room-size : goal.returns-then-room-size
returns-then-room-size c = echo_over c.if-m-lt1.false c.measure-size.ensures c.if-room-size.true

pub write-after-requires : goal.write-after-requires
write-after-requires c = echo_room c.if-m-lt1.false c.measure-size.ensures c.if-room-size.false c.requires

pub bounds-log-after : goal.bounds-log-after
bounds-log-after c = line_fits c.if-m-lt1.false c.measure-size.ensures c.if-room-size.false c.write-after.ensures c.write-after.auto.log c.requires

pub drop-r-requires : goal.drop-r-requires
drop-r-requires c = (c.if-m-lt1.false, nowhere_else c.requires)

pub overflow_add-r : goal.overflow_add-r
overflow_add-r c = omega (arith, line_fits c.if-m-lt1.false c.measure-size.ensures c.if-room-size.false c.write-after.ensures c.write-after.auto.log c.requires, c.write-after.auto.log, c.well_formed.1.1.1.1.0.0)

pub returns : goal.returns
returns c = echo_good c.if-m-lt1.false c.measure-size.ensures c.if-room-size.false c.write-after.ensures c.write-after.auto.log c.requires c.drop-r.ensures.moves_heap
