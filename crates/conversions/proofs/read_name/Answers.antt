-- `read_name` meets its contract: the loop keeps `Reads`, that the first j bytes are the name's.
-- Assumes nothing.
use Rattle.conversions.proofs.Reading.{few, begin, again, finish}
use Rattle.names.proofs.Spelling.{named_inside}
use native.Mathlib.Omega.{arith}
use Rattle.conversions.proofs.read_name.Goals as goal

pub name_size-n-requires : goal.name_size-n-requires
name_size-n-requires c = named_inside c.requires.1

pub loop-j-init : goal.loop-j-init
loop-j-init c = begin _ _ _

pub name_byte-requires : goal.name_byte-requires
name_byte-requires c = (named_inside c.requires.1, omega (arith, c.loop-j-test.true, few c.name_size-n.ensures c.requires.1))

pub bounds-out-j : goal.bounds-out-j
bounds-out-j c = omega (arith, c.requires.0, c.loop-j-test.true, few c.name_size-n.ensures c.requires.1, c.loop-j.invariant.long)

pub loop-j-preserved : goal.loop-j-preserved
loop-j-preserved c = again c.loop-j.invariant (omega (arith, c.requires.0, c.loop-j-test.true, few c.name_size-n.ensures c.requires.1)) c.name_byte.ensures

pub shape_of-out : goal.shape_of-out
shape_of-out c = c.loop-j.invariant.long

pub returns : goal.returns
returns c = record { name_read = finish c.loop-j.invariant c.name_size-n.ensures c.loop-j-test.false (omega (arith, c.requires.0, few c.name_size-n.ensures c.requires.1)); upper_bound = few c.name_size-n.ensures c.requires.1 }
