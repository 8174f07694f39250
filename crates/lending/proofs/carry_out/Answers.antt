-- `carry_out` meets its contract: the start, the string, and the run from there (`came`).
-- Assumes nothing.
use mathlib.Core.Path.{sym, ◌∙◌}
use Prim.Native.Nat.{◌+◌, ◌*◌}
use Rattle.semantics.specs.Sizes.{dictionary_width, name_count}
use native.Mathlib.Omega.{arith}
use lib.Seq.{length-take-le}
use Rattle.lending.proofs.Starting.{may_lend, goes, came, stack_long, dict_long}
use Rattle.lending.proofs.carry_out.Goals as goal

pub begin-m-requires : goal.begin-m-requires
begin-m-requires c = let S = c.requires.setup in
    (S.dict.0, S.dict.1, S.cells)

pub slice_bounds-lend-end : goal.slice_bounds-lend-end
slice_bounds-lend-end c = c.requires.scratch

pub slice_bounds-lend-end-2 : goal.slice_bounds-lend-end-2
slice_bounds-lend-end-2 c = sym (length-take-le _ c.args.stack.now c.requires.scratch)

pub slice_bounds-lend-end-3 : goal.slice_bounds-lend-end-3
slice_bounds-lend-end-3 c = omega (arith, c.requires.slot, c.begin-m.auto.dict)

pub slice_bounds-lend-end-4 : goal.slice_bounds-lend-end-4
slice_bounds-lend-end-4 c = sym (length-take-le (dictionary_width * (name_count + 1)) c.begin-m.new.dict (omega (arith, c.requires.slot, c.begin-m.auto.dict)))

pub lend-lent-requires : goal.lend-lent-requires
lend-lent-requires c = may_lend c.requires c.begin-m.ensures c.begin-m.auto.dict

pub proceed-requires : goal.proceed-requires
proceed-requires c = let G = c.requires in
    goes G c.begin-m.ensures c.begin-m.auto.dict c.lend-lent.ensures c.lend-lent.auto.stack c.lend-lent.auto.dict c.lend-lent.auto.cells

pub shape_of-stack : goal.shape_of-stack
shape_of-stack c = let G = c.requires in
    c.proceed.auto.stack ∙ stack_long G c.begin-m.ensures c.begin-m.auto.dict c.lend-lent.ensures c.lend-lent.auto.stack c.lend-lent.auto.dict c.lend-lent.auto.cells

pub shape_of-dict : goal.shape_of-dict
shape_of-dict c = let G = c.requires in
    c.proceed.auto.dict ∙ dict_long G c.begin-m.ensures c.begin-m.auto.dict c.lend-lent.ensures c.lend-lent.auto.stack c.lend-lent.auto.dict c.lend-lent.auto.cells

pub returns : goal.returns
returns c = let G = c.requires in
    came G c.begin-m.ensures c.begin-m.auto.dict c.lend-lent.ensures c.lend-lent.auto.stack c.lend-lent.auto.dict c.lend-lent.auto.cells c.proceed.ensures
