-- readonly on its operand: typecheck, and the mark else.
-- Assumes nothing.
use Rattle.std.specs.Prelude.{Ok, Err}
use mathlib.Core.Path.{refl, sym, ap, ◌∙◌}
use mathlib.Core.List.{List}
use Prim.Native.Nat.{ℕ, ◌≤◌, ◌<◌}
use native.Mathlib.Omega.{arith}
use lib.ListN.{get_or}
use Rattle.semantics.specs.Text.{bytes}
use Rattle.semantics.specs.Values.{Value, null, ok, ◌>>=◌}
use Rattle.semantics.specs.Machine.{with_stack, with_read_only, push, protect}
use Rattle.semantics.specs.Operators.{perform}
use Rattle.semantics.specs.declared.Error.TheVariants.{StackUnderflow, TypeCheck}
use Rattle.machine.specs.Rep.{MovesHeap}
use Rattle.machine.specs.Room.{DoesHeap}
use Rattle.machine.specs.declared.Machine.{Machine}
use Rattle.machine.proofs.Outcomes.{stack_depth, fails_heap, moves_heap}
use Rattle.elements.specs.Elements.{item_id, ItemTag, item_sealed}
use Rattle.elements.proofs.Tags.{tag_object, tag_no_object}
use Rattle.array_operators.specs.Items.{popped}
use Rattle.array_operators.proofs.Named.{front1, readonly_under, readonly_on}

module _ {m : Machine} {s c : List ℕ} where
  pub readonly_short : m.depth < 1 → DoesHeap (perform (bytes "readonly")) m s s c c (Err StackUnderflow)
  readonly_short h = fails_heap (λ e d l μ R. readonly_under μ (omega (arith, stack_depth R)))

  module _ (deep : 1 ≤ m.depth) {t : ℕ} (T : ItemTag 0 m s t) where
    pub readonly_type : t < 8 → DoesHeap (perform (bytes "readonly")) m s s c c (Err TypeCheck)
    unfolding ◌>>=◌
    readonly_type low =
        fails_heap (λ e d l μ R.
        let x = get_or μ.stack 0 null in
        let τ = popped 1 μ in
        readonly_on μ (omega (arith, deep, stack_depth R))
        ∙ ap (λ r. r >>= λ i. ok (push x (protect i τ))) (tag_no_object x (omega (arith, low, T.says e d c l μ R))))

    pub readonly_done : 8 ≤ t → {c₁ : List ℕ} → MovesHeap (item_sealed 0) m m s s c c₁ → DoesHeap (perform (bytes "readonly")) m s s c c₁ (Ok m)
    unfolding ◌>>=◌ item_sealed item_id protect with_read_only push popped with_stack
    readonly_done high K =
        moves_heap K (λ μ. refl) refl (λ e d l μ R.
        let x = get_or μ.stack 0 null in
        let τ = popped 1 μ in
        readonly_on μ (omega (arith, deep, stack_depth R))
        ∙ ap (λ r. r >>= λ i. ok (push x (protect i τ))) (tag_object x (omega (arith, high, T.says e d c l μ R)))
        ∙ ap (λ (st : List Value). ok (with_stack st (protect (item_id 0 μ) μ))) (sym (front1 μ.stack (omega (arith, deep, stack_depth R)))))
