-- The loop of `drop_items`: after q turns the q topmost items are gone.
-- Assumes nothing.
use mathlib.Core.Path.{◌≡◌, refl, sym, ap, ◌∙◌, subst}
use mathlib.Core.List.{List}
use Prim.Native.Nat.{ℕ, ◌+◌, ◌-◌, ◌≤◌, ◌<◌}
use native.Mathlib.Omega.{arith}
use lib.ListN.{length}
use lib.Seq.{drop-drop}
use Rattle.semantics.specs.Values.{Value}
use Rattle.semantics.specs.Machine as Floo
use Rattle.semantics.specs.Machine.{with_stack}
use Rattle.machine.specs.Rep.{Rep, MovesHeap}
use Rattle.machine.specs.Moves.{dropped}
use Rattle.machine.specs.declared.Machine.{Machine}
use Rattle.machine.proofs.Outcomes.{then_heap, same_heap}
use Rattle.array_operators.specs.Items.{popped}

popped_none : (μ : Floo.Machine) → popped 0 μ ≡ μ
unfolding popped with_stack
popped_none μ = refl

popped_more : (q : ℕ) (μ : Floo.Machine) → dropped (popped q μ) ≡ popped (q + 1) μ
unfolding popped dropped with_stack
popped_more q μ = ap (λ (l : List Value). with_stack l μ) (drop-drop 1 q μ.stack)

pub record Dropped (m₀ : Machine) (s c₀ : List ℕ) (m : Machine) (c : List ℕ) (q : ℕ) : Type 0 where
  pub few : q ≤ m₀.depth
  pub deep : m.depth ≡ m₀.depth - q
  pub long : length c ≡ length c₀
  pub moves : MovesHeap (popped q) m₀ m s s c₀ c

pub begin : (m : Machine) (s c : List ℕ) → Dropped m s c m c 0
begin m s c =
    record {
      few = omega arith;
      deep = omega arith;
      long = refl;
      moves = record { moves = λ e d l μ R. subst (Rep m s e d c l) (sym (popped_none μ)) R };
    }

module _ {m₀ : Machine} {s c₀ : List ℕ} {m : Machine} {c : List ℕ} {q : ℕ} (D : Dropped m₀ s c₀ m c q) where
  pub again : {r : Machine} {c' : List ℕ}
      → q < m₀.depth
      → MovesHeap dropped m r s s c c'
      → r.depth ≡ m.depth - 1
      → length c' ≡ length c
      → Dropped m₀ s c₀ r c' (q + 1)
  again h P less long =
      record {
        few = omega arith;
        deep = omega (arith, D.deep);
        long = long ∙ D.long;
        moves = same_heap (then_heap D.moves P) (λ μ _. popped_more q μ);
      }

  pub finish : {n : ℕ} → q ≤ n → n ≤ q → MovesHeap (popped n) m₀ m s s c₀ c
  finish {n} few h =
      let same : q ≡ n = omega arith in
      subst (λ k. MovesHeap (popped k) m₀ m s s c₀ c) same D.moves
