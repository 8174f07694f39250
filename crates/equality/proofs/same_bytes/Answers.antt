-- `same_bytes` meets its contract: the loop keeps `Agreed`, that the strings are the same where they are from byte q on. The measure is what is left of the maximum.
-- Assumes nothing.
use mathlib.Core.Path.{subst}
use native.Mathlib.Omega.{arith}
use Rattle.equality.proofs.Comparisons.{Agreed, begin, lower_string, upper_string, bytes_unlike, bytes_over, again, ends}
use Rattle.equality.proofs.same_bytes.Goals as goal

pub maximum-most-requires : goal.maximum-most-requires
maximum-most-requires c = (omega (arith, c.requires.0), lower_string c.requires.1)

pub loop-q-init : goal.loop-q-init
loop-q-init c = begin _ _ _

pub byte_or_zero-a-requires : goal.byte_or_zero-a-requires
byte_or_zero-a-requires c = (omega (arith, c.requires.0), lower_string c.requires.1)

pub byte_or_zero-requires : goal.byte_or_zero-requires
byte_or_zero-requires c = (omega (arith, c.requires.0), upper_string c.requires.1)

pub returns-then-a-byte_or_zero : goal.returns-then-a-byte_or_zero
returns-then-a-byte_or_zero c = bytes_unlike c.loop-q.invariant c.byte_or_zero-a.ensures c.byte_or_zero.ensures c.if-a-byte_or_zero.true

pub returns-then-a-eq0 : goal.returns-then-a-eq0
returns-then-a-eq0 c = bytes_over c.loop-q.invariant c.byte_or_zero-a.ensures c.byte_or_zero.ensures c.if-a-byte_or_zero.false c.if-a-eq0.true

pub loop-q-preserved : goal.loop-q-preserved
loop-q-preserved c = again c.loop-q.invariant c.byte_or_zero-a.ensures c.byte_or_zero.ensures c.if-a-byte_or_zero.false c.if-a-eq0.false

pub byte_or_zero-requires-2 : goal.byte_or_zero-requires-2
byte_or_zero-requires-2 c = (omega (arith, c.requires.0), upper_string c.requires.1)

pub returns : goal.returns
returns c = ends (subst (Agreed _ _ _) (omega (arith, c.loop-q-test.false, c.loop-q.auto.q-end)) c.loop-q.invariant) c.maximum-most.ensures (omega arith) c.byte_or_zero-2.ensures
