-- `build` meets its contract: the loop keeps `Going`, that what is left to plant gives what there was to plant; an inner group has a level less, which is the measure.
-- Assumes nothing.
use Rattle.group_building.proofs.Turning.{begin, readable, leaf_ready, leaf_inside, leaf_nearer, leaf_again, open_ready, deeper, inner_ready, inner_inside, inner_nearer, inner_again, closing}
use native.Mathlib.Omega.{arith}
use mathlib.Core.Path.{◌∙◌}
use Rattle.group_building.proofs.+build.Goals as goal

pub loop-read-init : goal.loop-read-init
loop-read-init t c = begin c.requires

pub read_piece-requires : goal.read_piece-requires
read_piece-requires t c = readable c.loop-read.invariant

pub put_leaf-r-requires : goal.put_leaf-r-requires
put_leaf-r-requires t c = leaf_ready c.loop-read.invariant c.read_piece.ensures _ _ c.in-Leaf.is

pub next-c-requires : goal.next-c-requires
next-c-requires t c = leaf_inside c.loop-read.invariant c.read_piece.ensures _ _ c.in-Leaf.is c.put_leaf-r.auto.cells

pub loop-read-smaller-in-Leaf : goal.loop-read-smaller-in-Leaf
loop-read-smaller-in-Leaf t c = leaf_nearer c.loop-read.invariant c.read_piece.ensures _ _ c.in-Leaf.is

pub loop-read-preserved-in-Leaf : goal.loop-read-preserved-in-Leaf
loop-read-preserved-in-Leaf t c = leaf_again c.loop-read.invariant c.read_piece.ensures _ _ c.in-Leaf.is c.put_leaf-r.ensures c.put_leaf-r.auto.cells c.next-c.ensures

pub open_group-opened-requires : goal.open_group-opened-requires
open_group-opened-requires t c = open_ready c.loop-read.invariant c.read_piece.ensures _ c.in-Open.is

pub overflow_sub-depth : goal.overflow_sub-depth
overflow_sub-depth t c = deeper c.loop-read.invariant c.read_piece.ensures _ c.in-Open.is

pub build-built-requires : goal.build-built-requires
build-built-requires t c = (omega (arith, c.decreases, deeper c.loop-read.invariant c.read_piece.ensures _ c.in-Open.is), inner_ready c.loop-read.invariant c.read_piece.ensures _ c.in-Open.is c.open_group-opened.ensures)

pub next-c-requires-in-Open : goal.next-c-requires-in-Open
next-c-requires-in-Open t c = inner_inside c.loop-read.invariant c.read_piece.ensures _ c.in-Open.is c.open_group-opened.ensures (c.build-built.auto.cells ∙ c.open_group-opened.auto.cells)

pub loop-read-smaller : goal.loop-read-smaller
loop-read-smaller t c = inner_nearer c.loop-read.invariant c.read_piece.ensures _ c.in-Open.is c.open_group-opened.ensures c.build-built.ensures

pub loop-read-preserved : goal.loop-read-preserved
loop-read-preserved t c = inner_again c.loop-read.invariant c.read_piece.ensures _ c.in-Open.is c.open_group-opened.ensures c.build-built.ensures (c.build-built.auto.cells ∙ c.open_group-opened.auto.cells) c.next-c-in-Open.ensures

pub shape_of-cells-in-Close : goal.shape_of-cells-in-Close
shape_of-cells-in-Close t c = c.loop-read.invariant.long

pub returns-in-Close : goal.returns-in-Close
returns-in-Close t c = closing c.loop-read.invariant c.read_piece.ensures c.in-Close.is
