-- `emit_doubled` meets its contract. The loop's invariant: the first i bytes are emitted, each quote twice. The measure is what is left of the place.
-- Assumes nothing.
use Rattle.ledger_writer.proofs.Places.{doubling_starts, doubling_room, doubling_next, doubling_ends}
use Rattle.ledger_writer.proofs.emit_doubled.Goals as goal

pub loop-b-init : goal.loop-b-init
loop-b-init c = doubling_starts

pub emit_byte-next-requires : goal.emit_byte-next-requires
emit_byte-next-requires c = doubling_room c.requires c.loop-b.invariant c.loop-b-test.true

pub loop-b-preserved : goal.loop-b-preserved
loop-b-preserved c = doubling_next c.requires c.loop-b.invariant c.loop-b-test.true c.emit_byte-next.auto.text c.emit_byte-next.ensures

pub shape_of-text : goal.shape_of-text
shape_of-text c = c.loop-b.invariant.same

pub returns : goal.returns
returns c = doubling_ends c.requires c.loop-b.invariant c.loop-b-test.false
