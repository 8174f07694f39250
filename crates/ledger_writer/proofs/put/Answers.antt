-- `put` meets its contract: a byte that is written where it is live, and else counted.
-- Assumes nothing.
use mathlib.Core.Path.{refl}
use native.Mathlib.Omega.{arith}
use lib.ListN.{length-set}
use Rattle.ledger_writer.proofs.Emits.{byte_emits, measures}
use Rattle.ledger_writer.proofs.put.Goals as goal
use Rattle.ledger_writer.proofs.put.Goals.{then-live, else-live}

pub bounds-text-at : goal.bounds-text-at
bounds-text-at c = let f = c.requires.fits c.if-live.true in omega (arith, f)

pub overflow_add-result : goal.overflow_add-result
overflow_add-result c = omega (arith, c.requires.small)

pub shape_of-text : goal.shape_of-text
shape_of-text c =
    elim c.if-live.branch [ then-live w ↦ rw w.text-is (length-set c.args.text.now c.args.at c.args.b) | else-live w ↦ rw w.text-is refl ]

pub returns : goal.returns
returns c =
    elim c.if-live.branch [ then-live w ↦ rw w.text-is (byte_emits w.if-live.true c.requires) | else-live w ↦ rw w.text-is (measures w.if-live.false refl) ]
