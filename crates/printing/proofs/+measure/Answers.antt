-- `measure` meets its contract, by recursion on the depth. The loop keeps that the sum is the length of the opening bracket and the first i elements, each with the byte after it.
-- Assumes nothing.
use Rattle.printing.proofs.Nesting.{plain_measures, deep_measures, none_measures, low_measures, size_room, first_sought, element_room, element_known, summed_begin, summed_over, summed_again, summed_ends}
use Rattle.printing.proofs.Headers.{found_after}
use mathlib.Core.Path.{refl, sym, ◌∙◌}
use native.Mathlib.Omega.{arith}
use Rattle.printing.proofs.+measure.Goals as goal

pub measure_plain-requires : goal.measure_plain-requires
measure_plain-requires t c = (c.if-tag-lt-TAG_ARRAY.true, c.requires)

pub at_most-requires : goal.at_most-requires
at_most-requires t c = tt

pub returns-then-tag-lt-TAG_ARRAY : goal.returns-then-tag-lt-TAG_ARRAY
returns-then-tag-lt-TAG_ARRAY t c = plain_measures c.measure_plain.ensures c.at_most.ensures

pub at_most-requires-then-depth-eq0 : goal.at_most-requires-then-depth-eq0
at_most-requires-then-depth-eq0 t c = tt

pub returns-then-depth-eq0 : goal.returns-then-depth-eq0
returns-then-depth-eq0 t c = deep_measures c.if-tag-lt-TAG_ARRAY.false c.if-depth-eq0.true c.at_most-then-depth-eq0.ensures

pub size-n-requires : goal.size-n-requires
size-n-requires t c = size_room c.if-tag-lt-TAG_ARRAY.false c.requires

pub at_most-requires-then-n-eq0 : goal.at_most-requires-then-n-eq0
at_most-requires-then-n-eq0 t c = tt

pub returns-then-n-eq0 : goal.returns-then-n-eq0
returns-then-n-eq0 t c = none_measures c.if-tag-lt-TAG_ARRAY.false c.if-depth-eq0.false (sym c.size-n.ensures ∙ c.if-n-eq0.true) c.at_most-then-n-eq0.ensures

pub returns-then-limit-lt2 : goal.returns-then-limit-lt2
returns-then-limit-lt2 t c = low_measures c.if-tag-lt-TAG_ARRAY.false c.if-depth-eq0.false (omega (arith, c.size-n.ensures, c.if-n-eq0.false)) c.if-limit-lt2.true refl

pub seek-c-requires : goal.seek-c-requires
seek-c-requires t c = first_sought c.if-tag-lt-TAG_ARRAY.false c.requires (omega (arith, c.size-n.ensures, c.if-n-eq0.false))

pub loop-i-init : goal.loop-i-init
loop-i-init t c = (omega (arith, c.if-limit-lt2.false), omega arith, c.seek-c.ensures, summed_begin _ _ _ _ _)

pub get-t-requires : goal.get-t-requires
get-t-requires t c = (omega arith, element_room c.if-tag-lt-TAG_ARRAY.false c.requires c.loop-i.i (omega (arith, c.loop-i-test.true, c.size-n.ensures)) _ c.loop-i.invariant.2)

pub get-p-requires : goal.get-p-requires
get-p-requires t c = (omega arith, element_room c.if-tag-lt-TAG_ARRAY.false c.requires c.loop-i.i (omega (arith, c.loop-i-test.true, c.size-n.ensures)) _ c.loop-i.invariant.2)

pub overflow_sub-left : goal.overflow_sub-left
overflow_sub-left t c = omega (arith, c.loop-i.invariant.0)

pub overflow_sub-depth : goal.overflow_sub-depth
overflow_sub-depth t c = omega (arith, c.if-depth-eq0.false)

pub measure-k-requires : goal.measure-k-requires
measure-k-requires t c = (omega (arith, c.decreases, c.if-depth-eq0.false), element_known c.if-tag-lt-TAG_ARRAY.false c.requires c.loop-i.i (omega (arith, c.loop-i-test.true, c.size-n.ensures)) _ c.loop-i.invariant.2 c.get-t.ensures c.get-p.ensures)

pub returns-then-left-k : goal.returns-then-left-k
returns-then-left-k t c = summed_over c.if-tag-lt-TAG_ARRAY.false c.if-depth-eq0.false c.loop-i.invariant.3 c.loop-i.invariant.0 (omega (arith, c.loop-i-test.true, c.size-n.ensures)) _ c.loop-i.invariant.2 c.get-t.ensures c.get-p.ensures c.measure-k.ensures c.if-left-k.true refl

pub overflow_add-sum : goal.overflow_add-sum
overflow_add-sum t c = omega (arith, c.if-left-k.false, c.loop-i.invariant.0)

pub overflow_add-sum-in-loop-i : goal.overflow_add-sum-in-loop-i
overflow_add-sum-in-loop-i t c = omega (arith, c.if-left-k.false, c.loop-i.invariant.0)

pub next-c-requires : goal.next-c-requires
next-c-requires t c = element_room c.if-tag-lt-TAG_ARRAY.false c.requires c.loop-i.i (omega (arith, c.loop-i-test.true, c.size-n.ensures)) _ c.loop-i.invariant.2

pub loop-i-preserved : goal.loop-i-preserved
loop-i-preserved t c = (
  omega (arith, c.if-left-k.false, c.loop-i.invariant.0),
  omega (arith, c.loop-i-test.true),
  found_after _ _ _ _ _
      c.loop-i.invariant.2 c.next-c.ensures,
  summed_again c.if-tag-lt-TAG_ARRAY.false c.if-depth-eq0.false c.loop-i.invariant.3 c.loop-i.invariant.0
      (omega (arith, c.loop-i-test.true, c.size-n.ensures)) _ c.loop-i.invariant.2 c.get-t.ensures c.get-p.ensures c.measure-k.ensures
      c.if-left-k.false,
)

pub returns : goal.returns
returns t c = summed_ends c.if-tag-lt-TAG_ARRAY.false c.if-depth-eq0.false c.loop-i.invariant.3 c.loop-i.invariant.0 (omega (arith, c.loop-i-test.false, c.size-n.ensures)) (omega (arith, c.size-n.ensures, c.if-n-eq0.false)) (omega (arith, c.loop-i.invariant.1, c.size-n.ensures))
