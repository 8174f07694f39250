-- Root places where one item of the stack and one execution slot change.
-- Assumes nothing.
use mathlib.Core.Path.{◌≡◌, refl, sym, ap, ◌∙◌}
use mathlib.Core.List.{List, ◌∷◌}
use mathlib.Core.Logic.{⊎_elim}
use lib.ListN.{length}
use Prim.Native.Nat.{ℕ, zero, suc, ◌+◌, ◌*◌}
use native.Mathlib.Omega.{arith}
use Rattle.semantics.specs.Values.{Value, null}
use Rattle.semantics.specs.Machine.{Machine}
use Rattle.heap.specs.Upd.{upd}
use Rattle.heap.proofs.Upds.{same?, upd_at, upd_other}
use Rattle.machine.specs.Places.{from_end, frame_value, binding_at, root_in, roots}
use Rattle.machine.proofs.Roots.{region_changed, at_end, at_other}

-- A list with one more at its front.
pub front_at : {A : Type 0} (f : A → Value) (a : A) (l : List A) (n : ℕ) (v : Value)
    → length l ≡ n
    → f a ≡ v
    → (y : ℕ)
    → from_end f (a ∷ l) y ≡ upd (from_end f l) n v y
unfolding from_end
front_at f a l n v e q y = ap (λ k. upd (from_end f l) k (f a) y) e ∙ ap (λ z. upd (from_end f l) n z y) q

-- A list without the one at its front.
pub rest_at : {A : Type 0} (f : A → Value) (a : A) (l : List A) (n : ℕ)
    → length l ≡ n
    → (y : ℕ)
    → from_end f l y ≡ upd (from_end f (a ∷ l)) n null y
rest_at f a l n e y =
    ⊎_elim
    (λ (q : y ≡ n). at_end f l y (omega (arith, e, q)) ∙ sym (upd_at (from_end f (a ∷ l)) n null y q))
    (λ (q : y ≡ n → ⊥). sym (at_other f a l y (λ z. q (z ∙ e))) ∙ sym (upd_other (from_end f (a ∷ l)) n null y q))
    (same? y n)

module _ (μ τ : Machine) (dictionary : τ.dictionary ≡ μ.dictionary) (handlers : τ.handlers ≡ μ.handlers) where
  -- Only the execution slot j has another value.
  pub exec_at : (j : ℕ) (v : Value)
      → τ.stack ≡ μ.stack
      → ((x : ℕ) → from_end frame_value τ.exec x ≡ upd (from_end frame_value μ.exec) j v x)
      → (r : ℕ)
      → roots τ r ≡ upd (roots μ) (4 * j + 1) v r
  unfolding root_in
  exec_at j v stack exec r = region_changed μ τ 1 j v (omega arith) exec other r
    where
      other : (k i : ℕ) → (k ≡ 1 → ⊥) → root_in τ k i ≡ root_in μ k i
      other zero i n = ap (λ s. from_end (λ x. x) s i) stack
      other (suc zero) i n = absurd (n refl)
      other (suc (suc zero)) i n = ap (λ d. binding_at d i) dictionary
      other (suc (suc (suc zero))) i n = ap (λ d. binding_at d i) handlers
      other (suc (suc (suc (suc k)))) i n = refl
