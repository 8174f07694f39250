-- The definition's pop of four operands, and an operand that is no Boolean.
-- Assumes nothing.
use mathlib.Core.Path.{◌≡◌, refl}
use mathlib.Core.Bool.{Bool}
use mathlib.Core.List.{List, [], ◌∷◌}
use Prim.Native.Nat.{ℕ, ◌<◌}
use native.Mathlib.Omega.{arith}
use lib.ListN.{length}
use Rattle.semantics.specs.Values.{Value, ok, fault, bool}
use Rattle.semantics.specs.Machine.{Machine, with_stack, pop4}
use Rattle.semantics.specs.declared.Error.TheVariants.{StackUnderflow, TypeCheck}
use Rattle.store.specs.Rep.{Stands, a_null, an_integer, a_boolean, a_mark, an_operator, a_literal, an_executable, a_string, an_array, a_procedure}

-- ---- too few items

module _ (μ : Machine) where
  pub pop4_short : length μ.stack < 4 → pop4 μ ≡ fault StackUnderflow
  unfolding pop4
  pop4_short = by μ.stack refl
    where
      by : (s : List Value) → μ.stack ≡ s → length s < 4 → pop4 μ ≡ fault StackUnderflow
      by [] e l = rw (e, pop4)
      by (a ∷ []) e l = rw (e, pop4)
      by (a ∷ b ∷ []) e l = rw (e, pop4)
      by (a ∷ b ∷ c ∷ []) e l = rw (e, pop4)
      by (a ∷ b ∷ c ∷ d ∷ s) e l = absurd (omega arith)

  -- ---- enough

  pub pop4_some : {w x y z : Value} {s : List Value} → μ.stack ≡ z ∷ y ∷ x ∷ w ∷ s → pop4 μ ≡ ok (w, x, y, z, with_stack s μ)
  unfolding pop4 with_stack
  pop4_some e = rw (e, pop4)

-- ---- operands of the wrong kind

pub stands_no_boolean : {keys : List (List ℕ)} {texts : List Bool} {ρ : ℕ → ℕ} {v : Value} {t p : ℕ}
    → Stands keys texts ρ v t p
    → (t ≡ 2 → ⊥)
    → bool v ≡ fault TypeCheck
unfolding bool
stands_no_boolean a_null n = refl
stands_no_boolean an_integer n = refl
stands_no_boolean a_boolean n = absurd (n refl)
stands_no_boolean a_mark n = refl
stands_no_boolean (an_operator q) n = refl
stands_no_boolean (a_literal q) n = refl
stands_no_boolean (an_executable q) n = refl
stands_no_boolean (a_string q k) n = refl
stands_no_boolean (an_array q k) n = refl
stands_no_boolean (a_procedure q k) n = refl
