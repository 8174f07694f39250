-- A failing step changes only the step count and `at`; a step counts one; and a run makes at most as many steps as it has fuel.
-- Assumes nothing.
use Rattle.std.specs.Prelude.{◌≡◌, List, ℕ, suc}
use Rattle.semantics.specs.Steps.{State, Step, goes, fails, misreads}
use Rattle.semantics.specs.declared.Error.{Error}
use Rattle.semantics.specs.declared.Fault.{Fault}

-- What a step does to the count of steps, and what a failing one leaves.
pub data Stepped (σ : State) : Step → Type 0 where
  went : {τ : State} → τ.steps ≡ suc σ.steps → Stepped σ (goes τ)
  stuck : {e : Error} {c : List ℕ} {τ : State}
      → τ.machine ≡ σ.machine
      → τ.next ≡ σ.next
      → τ.steps ≡ suc σ.steps
      → Stepped σ (fails e c τ)
  unread : {f : Fault} {τ : State}
      → τ.machine ≡ σ.machine
      → τ.next ≡ σ.next
      → τ.steps ≡ suc σ.steps
      → Stepped σ (misreads f τ)
