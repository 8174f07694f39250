-- `write_names` meets its contract: the loop keeps `Filling`, that the first k slots are right and the rest of the list has the other names.
-- Assumes nothing.
use Rattle.start.proofs.Filling.{fill_begin, fill_inside, fill_short, fill_again, fill_end}
use lib.ListN.{length-set}
use native.Mathlib.Omega.{arith}
use Rattle.start.proofs.write_names.Goals as goal

pub loop-k-init : goal.loop-k-init
loop-k-init c = fill_begin c.requires.0

pub blank_from-end-requires : goal.blank_from-end-requires
blank_from-end-requires c = c.loop-k.invariant.within

pub spell-requires : goal.spell-requires
spell-requires c = (fill_short c.loop-k.invariant c.loop-k-test.true c.blank_from-end.ensures, omega (arith, c.loop-k.invariant.long, c.loop-k-test.true, c.requires.1), omega (arith, c.loop-k.invariant.long, c.requires.2))

pub bounds-dict-k : goal.bounds-dict-k
bounds-dict-k c = omega (arith, c.spell.auto.dict, c.loop-k.invariant.long, c.loop-k-test.true, c.requires.1)

pub bounds-dict-k-in-loop-k : goal.bounds-dict-k-in-loop-k
bounds-dict-k-in-loop-k c = simp length-set (omega (arith, c.spell.auto.dict, c.loop-k.invariant.long, c.loop-k-test.true, c.requires.1))

pub overflow_add-at : goal.overflow_add-at
overflow_add-at c = omega (arith, fill_inside c.loop-k.invariant c.loop-k-test.true c.blank_from-end.ensures)

pub loop-k-preserved : goal.loop-k-preserved
loop-k-preserved c = fill_again c.loop-k.invariant c.loop-k-test.true c.blank_from-end.ensures c.spell.ensures c.spell.auto.dict c.requires.1 c.binding_tag.ensures c.binding_payload.ensures

pub shape_of-dict : goal.shape_of-dict
shape_of-dict c = c.loop-k.invariant.long

pub returns : goal.returns
returns c = fill_end c.loop-k.invariant c.loop-k-test.false
