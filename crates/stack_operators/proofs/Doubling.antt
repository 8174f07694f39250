-- The loop of `double`: after i turns the i lowest of the n topmost items stand once more above them.
-- Assumes nothing.
use mathlib.Core.Path.{◌≡◌, sym, ap, ◌∙◌, subst}
use mathlib.Core.List.{List, ◌∷◌, ◌++◌}
use Prim.Native.Nat.{ℕ, suc, ◌+◌, ◌-◌, ◌≤◌, ◌<◌}
use native.Mathlib.Omega.{arith}
use lib.ListN.{length, get_or, take, drop, length-take, length-drop, drop_of_length-le}
use lib.Seq.{drop-cons, get_or-append-add, get_or-take, length-take-le}
use Rattle.semantics.specs.Values.{Value, null}
use Rattle.semantics.specs.Machine as Floo
use Rattle.semantics.specs.Machine.{with_stack}
use Rattle.machine.specs.Rep.{Rep, MovesHeap}
use Rattle.machine.specs.Moves.{copied}
use Rattle.machine.specs.declared.Machine.{Machine}
use Rattle.machine.proofs.Outcomes.{then_heap, same_heap}
use Rattle.stack_operators.specs.Rearranged.{doubled}

-- ---- on lists

-- The item that comes next.
module _ (l : List Value) (n i : ℕ) (few : n ≤ length l) (h : i < n) where
  abbrev block : List Value
  block = take n l

  block_length : length block ≡ n
  block_length = length-take-le n l few

  next_item : get_or (drop (n - i) block ++ l) (n - 1) null ≡ get_or block (n - (i + 1)) null
  next_item =
      let rest : length (drop (n - i) block) ≡ i = length-drop (n - i) block ∙ omega (arith, block_length) in
      let place : n - 1 ≡ length (drop (n - i) block) + (n - (i + 1)) = omega arith in
      ap (λ k. get_or (drop (n - i) block ++ l) k null) place
      ∙ get_or-append-add (drop (n - i) block) l (n - (i + 1)) null
      ∙ sym (get_or-take n l (n - (i + 1)) null (omega arith))

  one_more : get_or (drop (n - i) block ++ l) (n - 1) null ∷ (drop (n - i) block ++ l) ≡ drop (n - (i + 1)) block ++ l
  one_more =
      let place : n - i ≡ suc (n - (i + 1)) = omega arith in
      ap (λ v. v ∷ (drop (n - i) block ++ l)) next_item
      ∙ ap (λ k. get_or block (n - (i + 1)) null ∷ (drop k block ++ l)) place
      ∙ sym (ap (λ (t : List Value). t ++ l) (drop-cons block (n - (i + 1)) null (omega (arith, block_length))))

-- ---- on machines

unfoldable pub doubling : ℕ → ℕ → Floo.Machine → Floo.Machine
doubling n i μ = with_stack (drop (n - i) (take n μ.stack) ++ μ.stack) μ

doubling_none : (n : ℕ) (μ : Floo.Machine) → doubling n 0 μ ≡ μ
unfolding doubling with_stack
doubling_none n μ =
    let few : length (take n μ.stack) ≤ n - 0 = simp length-take (omega arith) in
    ap (λ (t : List Value). with_stack (t ++ μ.stack) μ) (drop_of_length-le (take n μ.stack) {i = n - 0} few)

doubling_more : (n i : ℕ) (μ : Floo.Machine) → n ≤ length μ.stack → i < n → copied (n - 1) (doubling n i μ) ≡ doubling n (i + 1) μ
unfolding doubling copied with_stack
doubling_more n i μ few h = ap (λ (t : List Value). with_stack t μ) (one_more μ.stack n i few h)

doubling_all : (n i : ℕ) (μ : Floo.Machine) → n ≤ i → doubling n i μ ≡ doubled n μ
unfolding doubling doubled
doubling_all n i μ h =
    let none : n - i ≡ 0 = omega arith in
    ap (λ k. with_stack (drop k (take n μ.stack) ++ μ.stack) μ) none

-- ---- the loop

pub record Doubling (n : ℕ) (m₀ : Machine) (s₀ c₀ : List ℕ) (m : Machine) (s c : List ℕ) (i : ℕ) : Type 0 where
  pub deep : m.depth ≡ m₀.depth + i
  pub moves : MovesHeap (doubling n i) m₀ m s₀ s c₀ c

pub begin : (n : ℕ) (m : Machine) (s c : List ℕ) → Doubling n m s c m s c 0
begin n m s c = record { deep = omega arith; moves = record { moves = λ e d l μ R. subst (Rep m s e d c l) (sym (doubling_none n μ)) R } }

module _ {n : ℕ} {m₀ : Machine} {s₀ c₀ : List ℕ} {m : Machine} {s c : List ℕ} {i : ℕ} (D : Doubling n m₀ s₀ c₀ m s c i) where
  pub again : {r : Machine} {s' c' : List ℕ}
      → n ≤ m₀.depth
      → i < n
      → MovesHeap (copied (n - 1)) m r s s' c c'
      → r.depth ≡ m.depth + 1
      → Doubling n m₀ s₀ c₀ r s' c' (i + 1)
  again deep h P more =
      record {
        deep = omega (arith, D.deep);
        moves = same_heap (then_heap D.moves P) (λ μ q. doubling_more n i μ (omega arith) h);
      }

  pub finish : n ≤ i → MovesHeap (doubled n) m₀ m s₀ s c₀ c
  finish h = same_heap D.moves (λ μ q. doubling_all n i μ h)
