-- `forget_handlers` meets its contract: each pass takes one row's handler away (`clear_again`), and at the end no row has one.
-- Assumes nothing.
use lib.ListN.{length-set}
use Rattle.start.proofs.Unhandling.{clear_begin, clear_again, clear_end}
use native.Mathlib.Omega.{arith}
use Rattle.start.proofs.forget_handlers.Goals as goal

pub loop-j-init : goal.loop-j-init
loop-j-init c = clear_begin

pub bounds-dict-j : goal.bounds-dict-j
bounds-dict-j c = omega (arith, c.loop-j.invariant.long, c.loop-j-test.true, c.requires.0)

pub loop-j-preserved : goal.loop-j-preserved
loop-j-preserved c = clear_again c.requires.0 c.loop-j.invariant c.loop-j-test.true

pub bounds-dict-623 : goal.bounds-dict-623
bounds-dict-623 c = omega (arith, c.loop-j.invariant.long, c.requires.0)

pub bounds-dict-635 : goal.bounds-dict-635
bounds-dict-635 c = simp length-set (omega (arith, c.loop-j.invariant.long, c.requires.0))

pub shape_of-dict : goal.shape_of-dict
shape_of-dict c = simp length-set c.loop-j.invariant.long

pub returns : goal.returns
returns c = clear_end c.requires.0 c.loop-j.invariant c.loop-j-test.false
