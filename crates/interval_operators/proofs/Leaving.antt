-- An integer operand by its words, and operands that go.
-- Assumes nothing.
use mathlib.Core.Path.{◌≡◌, refl}
use mathlib.Core.Bool.{Bool}
use mathlib.Core.List.{List}
use Prim.Native.Nat.{ℕ, ◌-◌, ◌<◌}
use native.Mathlib.Omega.{arith}
use mathlib.Core.Path.{subst}
use Rattle.semantics.specs.Values.{integer}
use Rattle.store.specs.Rep.{Stands, an_integer}
use Rattle.machine.specs.Words.{item_tag, item_payload}
use Rattle.machine.specs.Rep.{IsIn, MovesStack, MovesHeap}
use Rattle.machine.specs.Moves.{dropped, swapped}
use Rattle.machine.specs.declared.Machine.{Machine}
use Rattle.machine.proofs.Copying.{word_of}
use Rattle.machine.proofs.Outcomes.{then_heap, stack_heap}
use Rattle.interval_operators.specs.Intervals.{ItemInteger, three_dropped, result_left}

stands_integer : {keys : List (List ℕ)} {texts : List Bool} {ρ : ℕ → ℕ} {w t p : ℕ} → Stands keys texts ρ (integer w) t p → p ≡ w
stands_integer an_integer = refl

pub integer_read : (i : ℕ) (m : Machine) (s : List ℕ) → i < m.depth → ItemInteger i m s (item_payload s (m.depth - 1 - i))
integer_read i m s h =
    record {
      says = λ e d c l μ R w q.
          let I = word_of R i (m.depth - 1 - i) (omega (arith, h)) in
          stands_integer (subst (λ v. IsIn R.world μ v (item_tag s (m.depth - 1 - i)) (item_payload s (m.depth - 1 - i))) q I).stands;
    }

pub three_gone : {m m₁ m₂ m₃ : Machine} {s c c₁ c₂ c₃ : List ℕ}
    → MovesHeap dropped m m₁ s s c c₁
    → MovesHeap dropped m₁ m₂ s s c₁ c₂
    → MovesHeap dropped m₂ m₃ s s c₂ c₃
    → MovesHeap three_dropped m m₃ s s c c₃
unfolding three_dropped
three_gone A B C = then_heap (then_heap A B) C

pub result_stays : {m m₁ m₂ m₃ : Machine} {s s' c c₁ c₂ : List ℕ}
    → MovesStack (swapped 0 2) m m₁ s s'
    → MovesHeap dropped m₁ m₂ s' s' c c₁
    → MovesHeap dropped m₂ m₃ s' s' c₁ c₂
    → MovesHeap result_left m m₃ s s' c c₂
unfolding result_left
result_stays A B C = then_heap (then_heap (stack_heap A) B) C
