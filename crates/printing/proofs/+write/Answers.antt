-- `write` meets its contract, by recursion on the depth. The loop keeps that the first i elements are written, each with the byte after it.
-- Assumes nothing.
use Rattle.printing.proofs.Nesting.{plain_room, plain_writes, deep_room, deep_writes, none_room, none_writes, list_room, size_room, first_sought, element_room, listed_begin, element_fits, after_fits, listed_again, listed_ends}
use Rattle.printing.proofs.Headers.{found_after}
use lib.ListN.{length-set}
use mathlib.Core.Path.{sym, ◌∙◌}
use native.Mathlib.Omega.{arith}
use Rattle.printing.proofs.+write.Goals as goal

pub write_plain-requires : goal.write_plain-requires
write_plain-requires t c = (c.if-tag-lt-TAG_ARRAY.true, plain_room c.requires)

pub shape_of-log-then-tag-lt-TAG_ARRAY : goal.shape_of-log-then-tag-lt-TAG_ARRAY
shape_of-log-then-tag-lt-TAG_ARRAY t c = c.write_plain.auto.log

pub returns-then-tag-lt-TAG_ARRAY : goal.returns-then-tag-lt-TAG_ARRAY
returns-then-tag-lt-TAG_ARRAY t c = plain_writes c.write_plain.ensures

pub write_short-requires : goal.write_short-requires
write_short-requires t c = deep_room c.if-tag-lt-TAG_ARRAY.false c.requires c.if-depth-eq0.true

pub shape_of-log-then-depth-eq0 : goal.shape_of-log-then-depth-eq0
shape_of-log-then-depth-eq0 t c = c.write_short.auto.log

pub returns-then-depth-eq0 : goal.returns-then-depth-eq0
returns-then-depth-eq0 t c = deep_writes c.if-tag-lt-TAG_ARRAY.false c.if-depth-eq0.true c.write_short.ensures

pub size-n-requires : goal.size-n-requires
size-n-requires t c = size_room c.if-tag-lt-TAG_ARRAY.false c.requires.known

pub write_short-requires-then-n-eq0 : goal.write_short-requires-then-n-eq0
write_short-requires-then-n-eq0 t c = none_room c.if-tag-lt-TAG_ARRAY.false c.requires c.if-depth-eq0.false (sym c.size-n.ensures ∙ c.if-n-eq0.true)

pub shape_of-log-then-n-eq0 : goal.shape_of-log-then-n-eq0
shape_of-log-then-n-eq0 t c = c.write_short-then-n-eq0.auto.log

pub returns-then-n-eq0 : goal.returns-then-n-eq0
returns-then-n-eq0 t c = none_writes c.if-tag-lt-TAG_ARRAY.false c.if-depth-eq0.false (sym c.size-n.ensures ∙ c.if-n-eq0.true) c.write_short-then-n-eq0.ensures

pub opening-requires : goal.opening-requires
opening-requires t c = tt

pub bounds-log-at : goal.bounds-log-at
bounds-log-at t c = omega (arith, list_room c.if-tag-lt-TAG_ARRAY.false c.requires c.if-depth-eq0.false (omega (arith, c.size-n.ensures, c.if-n-eq0.false)))

pub overflow_add-next : goal.overflow_add-next
overflow_add-next t c = omega (arith, list_room c.if-tag-lt-TAG_ARRAY.false c.requires c.if-depth-eq0.false (omega (arith, c.size-n.ensures, c.if-n-eq0.false)))

pub seek-c-requires : goal.seek-c-requires
seek-c-requires t c = first_sought c.if-tag-lt-TAG_ARRAY.false c.requires.known (omega (arith, c.size-n.ensures, c.if-n-eq0.false))

pub loop-i-init : goal.loop-i-init
loop-i-init t c = (omega arith, c.seek-c.ensures, listed_begin _ _ _ _ _ _ _)

pub get-t-requires : goal.get-t-requires
get-t-requires t c = (omega arith, element_room c.if-tag-lt-TAG_ARRAY.false c.requires.known c.loop-i.i (omega (arith, c.loop-i-test.true, c.size-n.ensures)) _ c.loop-i.invariant.1)

pub get-p-requires : goal.get-p-requires
get-p-requires t c = (omega arith, element_room c.if-tag-lt-TAG_ARRAY.false c.requires.known c.loop-i.i (omega (arith, c.loop-i-test.true, c.size-n.ensures)) _ c.loop-i.invariant.1)

pub overflow_sub-depth : goal.overflow_sub-depth
overflow_sub-depth t c = omega (arith, c.if-depth-eq0.false)

pub write-next-requires : goal.write-next-requires
write-next-requires t c = (omega (arith, c.decreases, c.if-depth-eq0.false), element_fits c.if-tag-lt-TAG_ARRAY.false c.requires c.if-depth-eq0.false (omega (arith, c.size-n.ensures, c.if-n-eq0.false)) (length-set c.args.log.now c.args.at c.opening.result) c.loop-i.invariant.2 (omega (arith, c.loop-i-test.true, c.size-n.ensures)) _ c.loop-i.invariant.1 c.get-t.ensures c.get-p.ensures)

pub overflow_sub-n : goal.overflow_sub-n
overflow_sub-n t c = omega (arith, c.loop-i-test.true)

pub byte_after-requires : goal.byte_after-requires
byte_after-requires t c = tt

pub bounds-log-next : goal.bounds-log-next
bounds-log-next t c = after_fits c.if-tag-lt-TAG_ARRAY.false c.requires c.if-depth-eq0.false (omega (arith, c.size-n.ensures, c.if-n-eq0.false)) (length-set c.args.log.now c.args.at c.opening.result) c.loop-i.invariant.2 (omega (arith, c.loop-i-test.true, c.size-n.ensures)) _ c.loop-i.invariant.1 c.get-t.ensures c.get-p.ensures c.write-next.ensures c.write-next.auto.log

pub overflow_add-next-in-loop-i : goal.overflow_add-next-in-loop-i
overflow_add-next-in-loop-i t c = omega (
  arith,
  after_fits c.if-tag-lt-TAG_ARRAY.false c.requires c.if-depth-eq0.false (omega (arith, c.size-n.ensures, c.if-n-eq0.false))
      (length-set c.args.log.now c.args.at c.opening.result) c.loop-i.invariant.2 (omega (arith, c.loop-i-test.true, c.size-n.ensures)) _
      c.loop-i.invariant.1 c.get-t.ensures c.get-p.ensures c.write-next.ensures c.write-next.auto.log,
  c.write-next.auto.log,
  c.loop-i.invariant.2.long,
  length-set c.args.log.now c.args.at c.opening.result,
)

pub next-c-requires : goal.next-c-requires
next-c-requires t c = element_room c.if-tag-lt-TAG_ARRAY.false c.requires.known c.loop-i.i (omega (arith, c.loop-i-test.true, c.size-n.ensures)) _ c.loop-i.invariant.1

pub loop-i-preserved : goal.loop-i-preserved
loop-i-preserved t c = (
  omega (arith, c.loop-i-test.true),
  found_after _ _ _ _ _ c.loop-i.invariant.1 c.next-c.ensures,
  listed_again
      c.if-tag-lt-TAG_ARRAY.false c.requires c.if-depth-eq0.false (omega (arith, c.size-n.ensures, c.if-n-eq0.false)) (length-set c.args.log.now c.args.at c.opening.result)
      c.loop-i.invariant.2 (omega (arith, c.loop-i-test.true, c.size-n.ensures)) _ c.loop-i.invariant.1 c.get-t.ensures c.get-p.ensures
      c.write-next.ensures c.write-next.auto.log c.size-n.ensures c.byte_after.ensures,
)

pub shape_of-log : goal.shape_of-log
shape_of-log t c = c.loop-i.invariant.2.long ∙ length-set c.args.log.now c.args.at c.opening.result

pub returns : goal.returns
returns t c = listed_ends c.if-tag-lt-TAG_ARRAY.false c.requires c.if-depth-eq0.false (omega (arith, c.size-n.ensures, c.if-n-eq0.false)) c.opening.ensures (omega (arith, c.loop-i-test.false, c.loop-i.invariant.0, c.size-n.ensures)) c.loop-i.invariant.2
