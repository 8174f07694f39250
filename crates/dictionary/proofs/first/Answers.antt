-- `first` meets its contract: the loop keeps `Passed`, that no slot so far agrees.
-- Assumes nothing.
use Rattle.dictionary.specs.Packing.{First}
use mathlib.Core.Path.{subst}
use native.Mathlib.Omega.{arith}
use Rattle.dictionary.proofs.Spelling.{pass_begin, pass_again, pass_found, pass_end}
use Rattle.dictionary.proofs.first.Goals as goal

pub loop-k-init : goal.loop-k-init
loop-k-init c = pass_begin

pub returns-then-agrees : goal.returns-then-agrees
returns-then-agrees c = record { first = pass_found c.loop-k.invariant {b = c.agrees.result} c.agrees.ensures c.if-agrees.true; upper_bound = c.loop-k-test.true }

pub loop-k-preserved : goal.loop-k-preserved
loop-k-preserved c = pass_again c.loop-k.invariant c.loop-k-test.true {b = c.agrees.result} c.agrees.ensures c.if-agrees.false

pub returns : goal.returns
returns c = record { first = subst (First _ _ _ _) (omega (arith, c.loop-k-test.false, c.loop-k.auto.k-end)) (pass_end c.loop-k.invariant c.loop-k-test.false); upper_bound = tt }
