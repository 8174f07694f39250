-- One place of the stack takes another value, also one that names an object.
-- Assumes nothing.
use mathlib.Core.Path.{◌≡◌, refl}
use mathlib.Core.List.{List}
use Prim.Native.Nat.{ℕ, ◌*◌, ◌≤◌, ◌<◌}
use native.Mathlib.Omega.{arith}
use lib.ListN.{length}
use Rattle.semantics.specs.Values.{Value}
use Rattle.semantics.specs.Machine as Floo
use Rattle.semantics.specs.Machine.{with_stack, with_exec}
use Rattle.heap.specs.declared.Lists.{Lists}
use Rattle.machine.specs.Places.{from_end, roots}
use Rattle.machine.specs.Rep.{Rep, IsIn, Items}
use Rattle.machine.specs.Recount.{Placed, Recounts}
use Rattle.machine.specs.declared.Machine.{Machine}
use Rattle.machine.proofs.Roots.{roots_at}
use Rattle.machine.proofs.Rerooting as Rerooting
use Rattle.machine.proofs.Rerooting.{with_depths}

-- The small state with another depth and other lists.
abbrev pub with_depth : ℕ → Lists → Machine → Machine
with_depth n s m = with_depths n m.frames s m

module _ {m : Machine} {st e d c l : List ℕ} {μ : Floo.Machine} (R : Rep m st e d c l μ) (k : ℕ) (few : k < 512)
    {t p : ℕ} (old : IsIn R.world μ (roots μ (4 * k)) t p)
    {v : Value} {t' p' : ℕ} (new : IsIn R.world μ v t' p') where
  -- What `recount` asks.
  pub placed : Placed m.lists c t p t' p'
  placed = Rerooting.placed R (4 * k) (omega arith) old new

  pub restacked : {s' : Lists} {c' : List ℕ} (K : Recounts m.lists c t p t' p' s' c') (stack : List Value) (st' : List ℕ) (n : ℕ)
      → ((j : ℕ) → (j ≡ k → ⊥) → from_end (λ x. x) stack j ≡ from_end (λ x. x) μ.stack j)
      → from_end (λ x. x) stack k ≡ v
      → length st' ≡ length st
      → 2 * n ≤ length st
      → Items (IsIn R.world μ) st' n stack
      → Rep (with_depth n s' m) st' e d c' l (with_stack stack μ)
  unfolding with_exec with_stack
  restacked K stack st' n others here long fits items =
      Rerooting.rerooted R (4 * k) (omega arith) old new K stack μ.exec (roots_at μ stack k v others here) long refl fits R.rooms.exec_fits items R.frames
