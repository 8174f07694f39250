-- `operators::pegs` meets its contract: ones, lowpeg and highpeg are named by their numbers.
-- Assumes nothing.
use mathlib.Core.Path.{refl}
use Rattle.semantics.specs.Operators.{table, ◌is◌}
use Rattle.store.specs.Rep.{titles}
use Rattle.operators.proofs.Named.{stack_named, peg_name_lem}
use native.Mathlib.Omega.{arith}
use Rattle.operators.proofs.pegs.Goals as goal

pub returns-then-k-eq57 : goal.returns-then-k-eq57
unfolding titles table ◌is◌
returns-then-k-eq57 c = stack_named _ _ c.if-k-eq57.true refl c.ones.ensures

pub returns : goal.returns
returns c = let pre = c.requires in
    let other = c.if-k-eq57.false in
    stack_named _ _ refl (peg_name_lem _ (omega (arith, pre.0, other)) pre.1) c.peg.ensures
