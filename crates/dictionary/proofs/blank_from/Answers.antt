-- `blank_from` meets its contract: the loop keeps `Seeking`, that no blank has been passed.
-- Assumes nothing.
use Rattle.dictionary.specs.Listing.{Ends}
use mathlib.Core.Path.{subst}
use Rattle.dictionary.proofs.Blanks.{seek_begin, seek_again, seek_found, seek_end}
use native.Mathlib.Omega.{arith}
use Rattle.dictionary.proofs.blank_from.Goals as goal

pub loop-end-init : goal.loop-end-init
loop-end-init c = seek_begin c.requires

pub returns-then-list-end-eq32 : goal.returns-then-list-end-eq32
returns-then-list-end-eq32 c = seek_found c.loop-end.invariant c.if-list-end-eq32.true

pub loop-end-preserved : goal.loop-end-preserved
loop-end-preserved c = seek_again c.loop-end.invariant c.loop-end-test.true c.if-list-end-eq32.false

pub returns : goal.returns
returns c = subst (Ends _ _) (omega (arith, c.loop-end-test.false, c.loop-end.auto.end-end)) (seek_end c.loop-end.invariant c.loop-end-test.false)
