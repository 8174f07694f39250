-- `text::copy` meets its contract. A byte more is written at each turn, and at the end it is the whole text.
-- Assumes nothing.
use Rattle.std.proofs.Common.{◌≡◌, refl, arith, length}
use native.Mathlib.Nat.{add-zero}
use lib.ListN.{length-set}
use lib.Seq.{take_all}
use Rattle.text.proofs.Pasting.{nothing, next}
use Rattle.text.proofs.copy.Goals as goal

pub loop-i-init : goal.loop-i-init
loop-i-init c = record { low = omega arith; written = rw add-zero (nothing _ _); same_length = refl }

pub loop-i-preserved : goal.loop-i-preserved
loop-i-preserved c = record {
  low = omega (arith, c.loop-i-test.true);
  written = next c.args.at c.loop-i.i c.args.text.now c.loop-i-test.true c.requires c.loop-i.invariant.written;
  same_length = simp length-set c.loop-i.invariant.same_length;
}

pub returns : goal.returns
returns c =
    let all : c.loop-i.i ≡ length c.args.text.now = omega (arith, c.loop-i.invariant.low, c.loop-i-test.false) in
    rw (take_all _ _ c.loop-i-test.false, all) at c.loop-i.invariant.written
