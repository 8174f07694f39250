-- `read_bytes` meets its contract: the loop keeps `Reads`, that the bytes before byte q are read.
-- Assumes nothing.
use Rattle.strings.proofs.Reading.{begin, has_byte, again, finish}
use native.Mathlib.Omega.{arith}
use Rattle.strings.proofs.read_bytes.Goals as goal

pub loop-q-init : goal.loop-q-init
loop-q-init c = begin _ _ _ _ _ _

pub get_byte-requires : goal.get_byte-requires
get_byte-requires c = (c.requires.0, has_byte c.requires.2 c.loop-q-test.true)

pub bounds-out-q : goal.bounds-out-q
bounds-out-q c = omega (arith, c.requires.1, c.loop-q-test.true, c.loop-q.invariant.long)

pub loop-q-preserved : goal.loop-q-preserved
loop-q-preserved c = again c.loop-q.invariant c.loop-q-test.true (omega (arith, c.requires.1, c.loop-q-test.true)) c.get_byte.ensures

pub shape_of-out : goal.shape_of-out
shape_of-out c = c.loop-q.invariant.long

pub returns : goal.returns
returns c = finish c.loop-q-test.false c.loop-q.invariant
