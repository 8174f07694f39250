-- A failing step changes only the step count and `at`; a step counts one; and a run makes at most as many steps as it has fuel.
-- Assumes nothing.
use Rattle.std.specs.Prelude.{refl, List, [], ◌∷◌, ℕ, zero, suc, ◌+◌, ◌≤◌, leb, length}
use Rattle.std.proofs.Math.Option.{Option, none, some}
use Rattle.std.proofs.Common.{arith}
use Rattle.semantics.specs.Values.{Result, ok, fault, Value}
use Rattle.semantics.specs.Errors.{error_text}
use Rattle.semantics.specs.Machine.{Machine, Frame, lookup}
use Rattle.semantics.specs.Tokens.{Lexing}
use Rattle.semantics.specs.Groups.{Taken, skip, take_token}
use Rattle.semantics.specs.Steps.{Limits, State, Step, unmoved, failing, ended, moved, token_step, step_on, step, Run, stopped, out_of_fuel, is_finished, finish, go_on, run}
use Rattle.semantics.specs.ResultLaws.{choose}
use Rattle.semantics.specs.declared.Error.{Error}
use Rattle.semantics.specs.RunLaws.{Stepped, went, stuck, unread}

failing_stepped : (l : Limits) (σ : State) (at next : ℕ) (left : List Frame) (e : Error) (command : List ℕ) (h : Option Value)
    → Stepped σ (failing l σ at next left e command h)
unfolding failing unmoved
failing_stepped l σ at next left e command none = stuck refl refl refl
failing_stepped l σ at next left e command (some h) =
    choose (Stepped σ) (leb (suc (length left)) l.exec_slots) _ _ (λ t. went refl) (λ t. stuck refl refl refl)

ended_stepped : (l : Limits) (σ : State) (at next : ℕ) (left : List Frame) (command : List ℕ) (r : Result Machine)
    → Stepped σ (ended l σ at next left command r)
unfolding ended
ended_stepped l σ at next left command (ok m) = went refl
ended_stepped l σ at next left command (fault e) = failing_stepped l σ at next left e command (lookup (error_text e) σ.machine.handlers)

token_stepped : (l : Limits) (σ : State) (start : ℕ) (t : Lexing Taken) → Stepped σ (token_step l σ start t)
unfolding token_step moved unmoved
token_stepped l σ start (fault f) = unread refl refl refl
token_stepped l σ start (ok t) = ended_stepped l σ _ _ _ _ _

step_on_stepped : (l : Limits) (script : List ℕ) (σ : State) (fs : List Frame) → Stepped σ (step_on l script σ fs)
unfolding step_on moved
step_on_stepped l script σ (f ∷ fs) = ended_stepped l σ _ _ _ _ _
step_on_stepped l script σ [] = token_stepped l σ (skip script σ.next) (take_token script (skip script σ.next) σ.machine)

pub step_stepped : (l : Limits) (script : List ℕ) (σ : State) → Stepped σ (step l script σ)
unfolding step
step_stepped l script σ = step_on_stepped l script σ σ.machine.exec

go_on_steps : (rest : State → Run) (fuel : ℕ) (σ : State)
    → ((τ : State) → (rest τ).final.steps ≤ τ.steps + fuel)
    → {s : Step}
    → Stepped σ s
    → (go_on rest s).final.steps ≤ σ.steps + suc fuel
unfolding go_on
go_on_steps rest fuel σ f (went {τ = τ} h) =
    choose (λ (r : Run). r.final.steps ≤ σ.steps + suc fuel) τ.machine.stopped (record { ending = stopped; final = τ }) (rest τ)
    (λ t. omega arith)
    (λ t. omega (arith, f τ))
go_on_steps rest fuel σ f (stuck h k n) = omega arith
go_on_steps rest fuel σ f (unread h k n) = omega arith

pub run_steps : (l : Limits) (script : List ℕ) (fuel : ℕ) (σ : State) → (run l script fuel σ).final.steps ≤ σ.steps + fuel
unfolding run finish
run_steps l script zero σ =
    choose (λ (r : Run). r.final.steps ≤ σ.steps + 0) (is_finished script σ) (finish script σ) (record { ending = out_of_fuel; final = σ })
    (λ t. omega arith)
    (λ t. omega arith)
run_steps l script (suc fuel) σ =
    choose (λ (r : Run). r.final.steps ≤ σ.steps + suc fuel) (is_finished script σ) (finish script σ) (go_on (run l script fuel) (step l script σ))
    (λ t. omega arith)
    (λ t. go_on_steps (run l script fuel) fuel σ (run_steps l script fuel) (step_stepped l script σ))
