-- A failing step changes only the step count and `at`; a step counts one; and a run makes at most as many steps as it has fuel.
-- Assumes nothing.
use Rattle.std.specs.Prelude.{◌≡◌, refl, List, [], ◌∷◌, ℕ, zero, suc, ◌+◌, ◌≤◌}
use Rattle.std.proofs.Common.{arith}
use Rattle.semantics.specs.ResultLaws.{choose}
use Rattle.semantics.specs.Values.{ok, fault}
use Rattle.forf_semantics.specs.Errors.{Result}
use Rattle.forf_semantics.specs.Machine.{Machine, Frame}
use Rattle.forf_semantics.specs.Steps.{Limits, State, Step, goes, fails, ended, moved, step_on, step, Run, out_of_fuel, is_finished, finish, go_on, run, initial}
use Rattle.forf_semantics.specs.declared.Error.{Error}

-- What a step does to the count of steps, and what a failing one leaves: memory too stays, being of the machine.
pub data Stepped (σ : State) : Step → Type 0 where
  went : {τ : State} → τ.steps ≡ suc σ.steps → Stepped σ (goes τ)
  stuck : {e : Error} {c : List ℕ} {τ : State}
      → τ.machine ≡ σ.machine
      → τ.next ≡ σ.next
      → τ.steps ≡ suc σ.steps
      → Stepped σ (fails e c τ)

ended_stepped : (σ : State) (at next : ℕ) (command : List ℕ) (r : Result Machine) → Stepped σ (ended σ at next command r)
unfolding ended
ended_stepped σ at next command (ok m) = went refl
ended_stepped σ at next command (fault e) = stuck refl refl refl

step_on_stepped : (l : Limits) (script : List ℕ) (σ : State) (fs : List Frame) → Stepped σ (step_on l script σ fs)
unfolding step_on moved
step_on_stepped l script σ (f ∷ fs) = ended_stepped σ _ _ _ _
step_on_stepped l script σ [] = ended_stepped σ _ _ _ _

pub step_stepped : (l : Limits) (script : List ℕ) (σ : State) → Stepped σ (step l script σ)
unfolding step
step_stepped l script σ = step_on_stepped l script σ σ.machine.exec

go_on_steps : (rest : State → Run) (fuel : ℕ) (σ : State)
    → ((τ : State) → (rest τ).final.steps ≤ τ.steps + fuel)
    → {s : Step}
    → Stepped σ s
    → (go_on rest s).final.steps ≤ σ.steps + suc fuel
unfolding go_on
go_on_steps rest fuel σ f (went {τ = τ} h) = omega (arith, f τ)
go_on_steps rest fuel σ f (stuck h k n) = omega arith

pub run_steps : (l : Limits) (script : List ℕ) (fuel : ℕ) (σ : State) → (run l script fuel σ).final.steps ≤ σ.steps + fuel
unfolding run finish
run_steps l script zero σ =
    choose (λ (r : Run). r.final.steps ≤ σ.steps + 0) (is_finished script σ) (finish script σ) (record { ending = out_of_fuel; final = σ })
    (λ t. omega arith)
    (λ t. omega arith)
run_steps l script (suc fuel) σ =
    choose (λ (r : Run). r.final.steps ≤ σ.steps + suc fuel) (is_finished script σ) (finish script σ) (go_on (run l script fuel) (step l script σ))
    (λ t. omega arith)
    (λ t. go_on_steps (run l script fuel) fuel σ (run_steps l script fuel) (step_stepped l script σ))

-- A whole run makes at most as many steps as its fuel.
pub run_fueled : (l : Limits) (script : List ℕ) (fuel : ℕ) (memory : List ℕ) → (run l script fuel (initial memory)).final.steps ≤ fuel
unfolding initial
run_fueled l script fuel memory = omega (arith, run_steps l script fuel (initial memory))
