-- `pack` meets its contract: the loop keeps `Packing`, that the first words spell the first bytes and the other words are as they were.
-- Assumes nothing.
use native.Mathlib.Omega.{arith}
use Rattle.dictionary.proofs.Spelling.{pack_begin, pack_inside, pack_again, pack_end}
use Rattle.dictionary.proofs.pack.Goals as goal

pub loop-i-init : goal.loop-i-init
loop-i-init c = pack_begin

pub packed-requires : goal.packed-requires
packed-requires c = omega (arith, c.loop-i-test.true)

pub offset_bounds-words-at : goal.offset_bounds-words-at
offset_bounds-words-at c = omega (arith, c.loop-i-test.true, c.requires.0, c.requires.1)

pub bounds-words-at : goal.bounds-words-at
bounds-words-at c = pack_inside c.loop-i.invariant c.requires.0 c.loop-i-test.true

pub loop-i-preserved : goal.loop-i-preserved
loop-i-preserved c = pack_again c.loop-i.invariant c.requires.0 c.loop-i-test.true c.packed.ensures

pub shape_of-words : goal.shape_of-words
shape_of-words c = c.loop-i.invariant.long

pub returns : goal.returns
returns c = pack_end c.loop-i.invariant c.loop-i-test.false
