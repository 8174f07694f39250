-- `operators::lower` meets its contract: each branch by the operator that it calls, named by its number.
-- Assumes nothing.
use Rattle.operators.proofs.Named.{heap_dictionary, stack_dictionary}
use Rattle.operators.proofs.lower.Goals as goal

pub rearrangements-requires : goal.rearrangements-requires
rearrangements-requires c = (c.if-k-lt6.true, (_, _, _, _, c.requires.1.3))

pub returns-then-k-lt6 : goal.returns-then-k-lt6
returns-then-k-lt6 c = heap_dictionary _ c.rearrangements.ensures _

pub returns-then-k-lt12 : goal.returns-then-k-lt12
returns-then-k-lt12 c = stack_dictionary _ c.arithmetic.ensures _ _

pub returns-then-k-lt18 : goal.returns-then-k-lt18
returns-then-k-lt18 c = stack_dictionary _ c.bits.ensures _ _

pub returns-then-k-lt20 : goal.returns-then-k-lt20
returns-then-k-lt20 c = heap_dictionary _ c.equalities.ensures _

pub returns-then-k-lt24 : goal.returns-then-k-lt24
returns-then-k-lt24 c = stack_dictionary _ c.comparisons.ensures _ _

pub returns : goal.returns
returns c = c.bindings.ensures
