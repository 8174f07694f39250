-- The definition's pop of three items, by how many there are; and a push that needs no heap, as what a primitive does.
-- Assumes nothing.
use mathlib.Core.Path.{◌≡◌, refl}
use mathlib.Core.List.{List, [], ◌∷◌}
use Prim.Native.Nat.{ℕ, ◌<◌}
use native.Mathlib.Omega.{arith}
use lib.ListN.{length}
use Rattle.semantics.specs.Values.{Value, ok, fault}
use Rattle.semantics.specs.Machine as Floo
use Rattle.semantics.specs.Machine.{with_stack, push, pop3}
use Rattle.semantics.specs.declared.Error.TheVariants.{StackUnderflow}
use Rattle.machine.specs.Operands.{Scalar, Pushes}
use Rattle.machine.specs.Rep.{MovesHeap}
use Rattle.machine.specs.declared.Machine.{Machine}

module _ (μ : Floo.Machine) where
  pub pop3_under : length μ.stack < 3 → pop3 μ ≡ fault StackUnderflow
  unfolding pop3
  pop3_under = by μ.stack refl
    where
      by : (s : List Value) → μ.stack ≡ s → length s < 3 → pop3 μ ≡ fault StackUnderflow
      by [] e l = rw (e, pop3)
      by (a ∷ []) e l = rw (e, pop3)
      by (a ∷ b ∷ []) e l = rw (e, pop3)
      by (a ∷ b ∷ c ∷ s) e l = absurd (omega arith)

  pub pop3_some : {x y z : Value} {s : List Value} → μ.stack ≡ z ∷ y ∷ x ∷ s → pop3 μ ≡ ok (x, y, z, with_stack s μ)
  unfolding pop3 with_stack
  pop3_some e = rw (e, pop3)

pub pushes_heap : {v : Value} {t p : ℕ} {m r : Machine} {s s' c : List ℕ} → Scalar v t p → Pushes t p m r s s' → MovesHeap (push v) m r s s' c c
pushes_heap {c = c} S P = record { moves = λ e d l μ R. P.does S e d c l μ R }
