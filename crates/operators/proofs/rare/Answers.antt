-- `operators::rare` meets its contract: each branch by the family that it calls.
-- Assumes nothing.
use Rattle.operators.proofs.Named.{stack_all, heap_all, heap_named, dictionary_all, log_all}
use Rattle.store.specs.Rep.{titles}
use Rattle.semantics.specs.Operators.{table, ◌is◌}
use native.Mathlib.Omega.{arith}
use mathlib.Core.Path.{refl}
use Rattle.operators.proofs.rare.Goals as goal

pub returns-then-k-lt47 : goal.returns-then-k-lt47
returns-then-k-lt47 c = heap_all _ c.intervals.ensures _ _ _

pub returns-then-k-lt51 : goal.returns-then-k-lt51
returns-then-k-lt51 c = dictionary_all _ c.converters.ensures _ _

pub returns-then-k-lt54 : goal.returns-then-k-lt54
returns-then-k-lt54 c = log_all _ c.outputs.ensures _

pub returns-then-k-lt57 : goal.returns-then-k-lt57
returns-then-k-lt57 c = dictionary_all _ c.errors.ensures _ _

pub returns-then-k-lt60 : goal.returns-then-k-lt60
returns-then-k-lt60 c = stack_all _ c.pegs.ensures _ _ _ _

pub returns : goal.returns
unfolding titles table ◌is◌
returns c = let pegs-not = c.if-k-lt60.false in
    let pre = c.requires in
    heap_all _ (heap_named 60 _ (omega (arith, pegs-not, pre.1)) refl c.readonly.ensures) _ _ _
