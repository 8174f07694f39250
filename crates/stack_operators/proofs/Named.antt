-- The definition's operator of each name, by its first pop and what follows.
-- Assumes nothing.
use mathlib.Core.Path.{◌≡◌, refl}
use mathlib.Core.List.{◌++◌}
use lib.IntN.{ℤ}
use lib.ListN.{length, take, drop, get_elem?}
use lib.Dec.{leb}
use Rattle.semantics.specs.Text.{bytes, textual}
use Rattle.semantics.specs.Values.{Result, ok, ◌>>=◌, check, given, count}
use Rattle.semantics.specs.Machine.{Machine, with_stack, push, pop1, pop2}
use Rattle.semantics.specs.Operators.{perform, find, table, ◌is◌}
use Rattle.semantics.specs.StackOperators.{dup, exch, pop, index, copy, roll, modulo}
use Rattle.semantics.specs.declared.Error.TheVariants.{StackUnderflow}
use Rattle.machine.proofs.Outcomes.{on_one, on_two}

pub dup_is : (μ : Machine) → perform (bytes "dup") μ ≡ (pop1 μ >>= λ p. ok (push p.0 (push p.0 p.1)))
unfolding textual perform find table ◌is◌ dup
dup_is μ = refl

pub exch_is : (μ : Machine) → perform (bytes "exch") μ ≡ (pop2 μ >>= λ p. ok (push p.0 (push p.1 p.2)))
unfolding textual perform find table ◌is◌ exch
exch_is μ = refl

pub pop_is : (μ : Machine) → perform (bytes "pop") μ ≡ (pop1 μ >>= λ p. ok p.1)
unfolding textual perform find table ◌is◌ pop
pop_is μ = refl

-- ---- a count, and what it is of

abbrev pub picking : ℤ → Machine → Result Machine
picking z τ = count z >>= λ n. given (get_elem? τ.stack n) StackUnderflow >>= λ v. ok (push v τ)

pub index_is : (μ : Machine) → perform (bytes "index") μ ≡ on_one picking μ
unfolding textual perform find table ◌is◌ index
index_is μ = refl

abbrev pub copying : ℤ → Machine → Result Machine
copying z τ = count z >>= λ n. check (leb n (length τ.stack)) StackUnderflow >>= λ u. ok (with_stack (take n τ.stack ++ τ.stack) τ)

pub copy_is : (μ : Machine) → perform (bytes "copy") μ ≡ on_one copying μ
unfolding textual perform find table ◌is◌ copy
copy_is μ = refl

abbrev pub rolling : ℤ → ℤ → Machine → Result Machine
rolling z shift τ =
    count z >>= λ n.
    check (leb n (length τ.stack)) StackUnderflow >>= λ u.
    ok (with_stack (drop (modulo shift n) (take n τ.stack) ++ take (modulo shift n) (take n τ.stack) ++ drop n τ.stack) τ)

pub roll_is : (μ : Machine) → perform (bytes "roll") μ ≡ on_two rolling μ
unfolding textual perform find table ◌is◌ roll
roll_is μ = refl
