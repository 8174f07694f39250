-- eq and ne by one law of the definition's `equality f`: both operands give way to what f makes of the comparison.
-- Assumes nothing.
use Rattle.std.specs.Prelude.{Ok, Err}
use mathlib.Core.Path.{◌≡◌, refl, sym, ap, ◌∙◌, subst}
use mathlib.Core.Bool.{Bool, true, false, not, beq}
use mathlib.Core.List.{List, ◌∷◌}
use Prim.Native.Nat.{ℕ, ◌-◌, ◌+◌, ◌*◌, ◌≤◌, ◌<◌}
use native.Mathlib.Omega.{arith}
use lib.ListN.{length, drop}
use Rattle.semantics.specs.Text.{textual, same}
use Rattle.semantics.specs.Values.{Value, boolean, Result, ok, fault, ◌>>=◌}
use Rattle.semantics.specs.Machine as Floo
use Rattle.semantics.specs.Machine.{with_stack, push}
use Rattle.semantics.specs.NumberOperators.{key, equality}
use Rattle.semantics.specs.Operators.{perform, find, table, ◌is◌}
use Rattle.semantics.specs.declared.Error.TheVariants.{StackUnderflow}
use Rattle.store.specs.Rep.{bit}
use Rattle.machine.specs.Rep.{Somewhere, MovesHeap}
use Rattle.machine.specs.Moves.{dropped}
use Rattle.machine.specs.Operands.{Pushes, a_boolean}
use Rattle.machine.specs.Room.{DoesHeap}
use Rattle.machine.specs.declared.Machine.{Machine}
use Rattle.machine.proofs.Operands.{pop2_some, pop2_under}
use Rattle.machine.proofs.Outcomes.{stack_depth, two_items, fails_heap, moves_heap, KeepsStore}
use Rattle.equality.specs.Comparing.{Compares, answered, name_of, turned_by}

pub named_is : (negated : Bool) (μ : Floo.Machine) → perform (name_of negated) μ ≡ equality (turned_by negated) μ
unfolding textual perform find table ◌is◌ name_of turned_by
named_is false μ = refl
named_is true μ = refl

-- The answer differs from `negated` where the turned answer holds.
pub turned : (b negated : Bool) → not (beq b negated) ≡ turned_by negated b
unfolding turned_by
turned true true = refl
turned true false = refl
turned false true = refl
turned false false = refl

answered_store : (b : Bool) → KeepsStore (answered b)
unfolding answered dropped push with_stack
answered_store b μ = refl

unfoldable answering : (Bool → Bool) → Floo.Machine → Value → Value → Floo.Machine
answering f τ x y = push (boolean (f (same (key τ x) (key τ y)))) τ

equality_none : (f : Bool → Bool) (μ : Floo.Machine) → length μ.stack < 2 → equality f μ ≡ fault StackUnderflow
unfolding equality ◌>>=◌ answering
equality_none f μ h = ap (λ r. r >>= λ p. ok (answering f p.2 p.0 p.1)) (pop2_under μ h)

equality_gives : (f : Bool → Bool) (μ : Floo.Machine) {x y : Value} {rest : List Value} {b : Bool}
    → μ.stack ≡ y ∷ x ∷ rest
    → b ≡ same (key (with_stack rest μ) x) (key (with_stack rest μ) y)
    → equality f μ ≡ ok (answered (f b) μ)
unfolding equality ◌>>=◌ answering answered dropped with_stack
equality_gives f μ {rest = rest} {b = b} split says =
    ap (λ r. r >>= λ p. ok (answering f p.2 p.0 p.1)) (pop2_some μ split)
    ∙ ap (λ a. ok (push (boolean (f a)) (with_stack rest μ))) (sym says)
    ∙ ap (λ (l : List Value). ok (push (boolean (f b)) (with_stack (drop 1 (drop 1 l)) μ))) (sym split)

module _ {op : Floo.Machine → Result Floo.Machine} (f : Bool → Bool) (named : (μ : Floo.Machine) → op μ ≡ equality f μ) {m : Machine} {s c : List ℕ} where
  pub equality_short : m.depth < 2 → DoesHeap op m s s c c (Err StackUnderflow)
  equality_short h = fails_heap (λ e d l μ R. named μ ∙ equality_none f μ (omega (arith, stack_depth R)))

  pub equality_good : {r b : Bool} {m' : Machine} {s' c' : List ℕ}
      → 2 ≤ m.depth
      → Compares m s c r
      → b ≡ f r
      → MovesHeap (answered b) m m' s s' c c'
      → length s' ≡ length s
      → DoesHeap op m s s' c c' (Ok m')
  equality_good {r} {m' = m'} {s' = s'} {c' = c'} deep K q M long =
      moves_heap (subst (λ a. MovesHeap (answered a) m m' s s' c c') q M) (answered_store (f r)) long (λ e d l μ R.
      let t = two_items μ.stack (omega (arith, deep, stack_depth R)) in
      named μ ∙ equality_gives f μ t.3 (K.says e d l μ R t.1 t.0 t.2 t.3))

-- ---- the answer

pub room_after : {m : Machine} {s c : List ℕ} {n : ℕ} → 2 ≤ m.depth → Somewhere m s c → n ≡ m.depth - 2 → 2 * n + 2 ≤ length s
room_after deep (e, d, l, μ, R) h = omega (arith, deep, h, R.rooms.stack_fits)

pub answers : (b : Bool) {m m₁ m₂ m' : Machine} {s s' c c₁ c₂ : List ℕ} {p : ℕ}
    → p ≡ bit b
    → MovesHeap dropped m m₁ s s c c₁
    → MovesHeap dropped m₁ m₂ s s c₁ c₂
    → Pushes 2 p m₂ m' s s'
    → MovesHeap (answered b) m m' s s' c c₂
unfolding answered
answers b {m₂ = m₂} {m' = m'} {s = s} {s' = s'} {c₂ = c₂} q A B P =
    let Q = subst (λ n. Pushes 2 n m₂ m' s s') q P in
    record { moves = λ e d l μ R. Q.does a_boolean e d c₂ l _ (B.moves e d l _ (A.moves e d l μ R)) }
