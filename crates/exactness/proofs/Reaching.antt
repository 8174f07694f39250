-- A run by its turns: the states that have been passed, and the run from the present state on. Each way on or out is a law of both.
-- Assumes nothing.
use mathlib.Core.Path.{◌≡◌, refl, sym, ap, ◌∙◌}
use mathlib.Core.Bool.{true, false}
use mathlib.Core.List.{List, [], ◌∷◌, ◌++◌, append_assoc}
use Prim.Native.Nat.{ℕ, suc}
use Rattle.semantics.specs.Steps.{Limits, State, goes, fails, misreads, step, Run, stopped, out_of_fuel, failed, misread, is_finished, finish, run}
use Rattle.semantics.specs.declared.Error.{Error}
use Rattle.semantics.specs.declared.Fault.{Fault}
use Rattle.exactness.specs.Traces.{trace}
use Rattle.exactness.proofs.Tracing.{trace_finished, trace_spent, trace_fails, trace_misreads, trace_stops, trace_goes, run_finished, run_spent, run_fails, run_misreads, run_stops, run_goes}

-- The states before have been passed, τ is the present one, and `left` is the fuel that is left.
pub record Reached (l : Limits) (script : List ℕ) (fuel : ℕ) (σ : State) (before : List State) (left : ℕ) (τ : State) : Type 0 where
  pub states : trace l script fuel σ ≡ before ++ trace l script left τ
  pub runs : run l script fuel σ ≡ run l script left τ

-- The run is over: these are its states, and it comes to r.
pub record Over (l : Limits) (script : List ℕ) (fuel : ℕ) (σ : State) (all : List State) (r : Run) : Type 0 where
  pub states : trace l script fuel σ ≡ all
  pub runs : run l script fuel σ ≡ r

pub reached_start : (l : Limits) (script : List ℕ) (fuel : ℕ) (σ : State) → Reached l script fuel σ [] fuel σ
reached_start l script fuel σ = record { states = refl; runs = refl }

module _ {l : Limits} {script : List ℕ} {fuel : ℕ} {σ : State} {before : List State} {τ : State} where
  pub over_finished : {left : ℕ} → Reached l script fuel σ before left τ → is_finished script τ ≡ true → Over l script fuel σ (before ++ (τ ∷ [])) (finish script τ)
  over_finished {left} R f = record {
    states = R.states ∙ ap (λ x. before ++ x) (trace_finished l script τ left f);
    runs = R.runs ∙ run_finished l script τ left f;
  }

  pub over_spent : Reached l script fuel σ before 0 τ → is_finished script τ ≡ false → Over l script fuel σ (before ++ (τ ∷ [])) (record { ending = out_of_fuel; final = τ })
  over_spent R f = record {
    states = R.states ∙ ap (λ x. before ++ x) (trace_spent l script τ);
    runs = R.runs ∙ run_spent l script τ f;
  }

  module _ {n : ℕ} (R : Reached l script fuel σ before (suc n) τ) (more : is_finished script τ ≡ false) where
    -- One step more has been made.
    passed : {rest : List State} → trace l script (suc n) τ ≡ τ ∷ rest → trace l script fuel σ ≡ (before ++ (τ ∷ [])) ++ rest
    passed {rest} e = R.states ∙ ap (λ x. before ++ x) e ∙ sym (append_assoc before (τ ∷ []) rest)

    pub over_fails : {e : Error} {c : List ℕ} {υ : State} → step l script τ ≡ fails e c υ
        → Over l script fuel σ ((before ++ (τ ∷ [])) ++ (υ ∷ [])) (record { ending = failed e c; final = υ })
    over_fails s = record { states = passed (trace_fails l script τ n more s); runs = R.runs ∙ run_fails l script τ n more s }

    pub over_misreads : {f : Fault} {υ : State} → step l script τ ≡ misreads f υ
        → Over l script fuel σ ((before ++ (τ ∷ [])) ++ (υ ∷ [])) (record { ending = misread f; final = υ })
    over_misreads s = record { states = passed (trace_misreads l script τ n more s); runs = R.runs ∙ run_misreads l script τ n more s }

    pub over_stops : {υ : State} → step l script τ ≡ goes υ → υ.machine.stopped ≡ true
        → Over l script fuel σ ((before ++ (τ ∷ [])) ++ (υ ∷ [])) (record { ending = stopped; final = υ })
    over_stops s t = record { states = passed (trace_stops l script τ n more s t); runs = R.runs ∙ run_stops l script τ n more s t }

    pub reached_goes : {υ : State} → step l script τ ≡ goes υ → υ.machine.stopped ≡ false → Reached l script fuel σ (before ++ (τ ∷ [])) n υ
    reached_goes s t = record { states = passed (trace_goes l script τ n more s t); runs = R.runs ∙ run_goes l script τ n more s t }
