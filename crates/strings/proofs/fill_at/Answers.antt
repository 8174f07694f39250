-- `fill_at` meets its contract: the loop keeps `Filling`, that the bytes read so far stand in front. The measure is what is left of the script.
-- Assumes nothing.
use native.Mathlib.Omega.{arith}
use Rattle.strings.proofs.Filling.{begin, few_bytes, one_left, nearer, byte_room, again, finish}
use Rattle.strings.proofs.fill_at.Goals as goal

pub loop-b-init : goal.loop-b-init
loop-b-init c = begin c.requires

pub unescape-requires : goal.unescape-requires
unescape-requires c = let F = c.loop-b.invariant in (F.rest, F.last, F.left)

pub put_byte_at-requires : goal.put_byte_at-requires
put_byte_at-requires c = byte_room c.loop-b.invariant c.unescape.ensures c.in-Some.is

pub overflow_add-q : goal.overflow_add-q
overflow_add-q c = omega (arith, few_bytes c.loop-b.invariant, one_left c.loop-b.invariant c.unescape.ensures c.in-Some.is)

pub loop-b-smaller : goal.loop-b-smaller
loop-b-smaller c = nearer c.loop-b.invariant c.unescape.ensures c.in-Some.is

pub loop-b-preserved : goal.loop-b-preserved
loop-b-preserved c = again c.loop-b.invariant c.unescape.ensures c.in-Some.is c.put_byte_at.ensures c.put_byte_at.auto.cells

pub shape_of-cells : goal.shape_of-cells
shape_of-cells c = c.loop-b.invariant.long

pub returns : goal.returns
returns c = finish c.loop-b.invariant c.unescape.ensures c.in_default.is
