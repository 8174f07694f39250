-- A run loses no object and no mark for read only, since a step loses none and values go on naming objects of their own kind.
-- Assumes nothing.
use mathlib.Core.List.{List}
use Prim.Native.Nat.{ℕ, ◌≤◌}
use Rattle.semantics.specs.Steps.{Limits, State, run, initial}
use Rattle.walk.proofs.RunsLater.{run_later}
use Rattle.growth.specs.Stores.{Remains}
use Rattle.growth.proofs.Kinding.{Kinded, initial_kinded}
use Rattle.growth.proofs.StepStore.{remains_itself, remains_then, step_store, step_kinded}

-- Each later state of a run keeps the objects and the marks of each earlier one.
pub run_store_later : (l : Limits) (script : List ℕ) (early late : ℕ)
    → early ≤ late
    → (σ : State)
    → Kinded σ.machine
    → Remains (run l script early σ).final.machine (run l script late σ).final.machine
run_store_later l script =
    run_later Kinded Remains l script remains_itself (λ a b c. remains_then) (λ σ τ k e. (step_kinded l script σ τ k e, step_store l script σ τ k e))

-- So it is in the definition's run from the start.
pub run_store_initial : (l : Limits) (script : List ℕ) (early late : ℕ)
    → early ≤ late
    → Remains (run l script early initial).final.machine (run l script late initial).final.machine
run_store_initial l script early late h = run_store_later l script early late h initial initial_kinded
