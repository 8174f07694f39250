-- `current_size` meets its contract: the loop keeps `Scanned`, that no byte before byte q is zero.
-- Assumes nothing.
use Rattle.printing.specs.Shown.{CurrentSize}
use mathlib.Core.Path.{subst}
use Rattle.printing.proofs.Bytes.{scan_begin, scan_ends, scan_stops, scan_again}
use Rattle.printing.proofs.Headers.{string_room, most_is}
use native.Mathlib.Omega.{arith}
use Rattle.printing.proofs.current_size.Goals as goal

pub kind-most-requires : goal.kind-most-requires
kind-most-requires c = let K = c.requires in string_room K.rep K.words

pub overflow_sub-most : goal.overflow_sub-most
overflow_sub-most c = let K = c.requires in omega (arith, c.kind-most.ensures, most_is K.rep K.words)

pub loop-q-init : goal.loop-q-init
loop-q-init c = scan_begin c.requires

pub string_byte-requires : goal.string_byte-requires
string_byte-requires c = (omega (arith, c.loop-q-test.true, c.kind-most.ensures), c.requires)

pub returns-then-string_byte-eq0 : goal.returns-then-string_byte-eq0
returns-then-string_byte-eq0 c = record { current_size = scan_stops c.loop-q.invariant (omega (arith, c.loop-q-test.true, c.kind-most.ensures)) c.string_byte.ensures c.if-string_byte-eq0.true; upper_bound = c.loop-q.invariant.within }

pub loop-q-preserved : goal.loop-q-preserved
loop-q-preserved c = scan_again c.loop-q.invariant (omega (arith, c.loop-q-test.true, c.kind-most.ensures)) c.string_byte.ensures c.if-string_byte-eq0.false

pub returns : goal.returns
returns c = record {
  current_size = subst (CurrentSize _ _) (omega (arith, c.loop-q-test.false, c.loop-q.auto.q-end)) (scan_ends c.loop-q.invariant (omega (arith, c.loop-q-test.false, c.kind-most.ensures)));
  upper_bound = omega (arith, c.loop-q.invariant.within, c.loop-q-test.false, c.loop-q.auto.q-end);
}
