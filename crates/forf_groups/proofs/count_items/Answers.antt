-- `forf_groups::count_items` meets its contract: each way to an answer by its law.
-- Assumes nothing.
use Rattle.forf_groups.proofs.Taking.{count_begin, count_ends, count_inside, count_again}
use native.Mathlib.Omega.{arith}
use Rattle.forf_groups.proofs.count_items.Goals as goal

pub loop-next-init : goal.loop-next-init
loop-next-init c = count_begin c.requires.0

pub skip-requires : goal.skip-requires
skip-requires c = c.loop-next.invariant.known.inside

pub loop-next-smaller : goal.loop-next-smaller
loop-next-smaller c = omega (arith, count_inside c.loop-next.invariant c.skip.ensures.value c.in-Some.ensures)

pub loop-next-preserved : goal.loop-next-preserved
loop-next-preserved c = count_again c.loop-next.invariant c.skip.ensures.value c.in-Some.ensures

pub returns : goal.returns
returns c = count_ends c.loop-next.invariant c.skip.ensures.value c.in_default.ensures
