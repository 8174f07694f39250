-- The list of a run's states is tied to the run: both ask the same tests in the same order, so that they agree on each way on, on the number of steps and
-- on the state at the end.
-- Assumes nothing.
use mathlib.Core.Path.{◌≡◌, refl, ap, ◌∙◌}
use mathlib.Core.Bool.{Bool, true, false}
use mathlib.Core.List.{List, [], ◌∷◌}
use Prim.Native.Nat.{ℕ, zero, suc, ◌+◌, ◌≤◌, ◌<◌}
use native.Mathlib.Omega.{arith}
use lib.ListN.{length, get_or, take}
use Rattle.semantics.specs.Steps.{Limits, State, Step, goes, fails, misreads, step, Run, stopped, out_of_fuel, failed, misread, is_finished, finish, go_on, run}
use Rattle.semantics.specs.RunLaws.{Stepped, went, stuck, unread}
use Rattle.semantics.proofs.RunLaws.{step_stepped}
use Rattle.semantics.specs.ResultLaws.{choose}
use Rattle.semantics.specs.declared.Error.{Error}
use Rattle.semantics.specs.declared.Fault.{Fault}
use Rattle.exactness.specs.Traces.{leaves, trace_on, trace, last}

-- ---- choices

-- Two choices by one test.
alike : {A B : Type 0} (P : A → B → Type 0) (b : Bool) (x y : A) (u v : B) → P x u → P y v → P (elim b [ true ↦ x | false ↦ y ]) (elim b [ true ↦ u | false ↦ v ])
alike P true x y u v p q = p
alike P false x y u v p q = q

when : {A : Type 0} {b : Bool} (x y : A) → b ≡ true → elim b [ true ↦ x | false ↦ y ] ≡ x
when x y e = ap (λ b. elim b [ true ↦ x | false ↦ y ]) e

unless : {A : Type 0} {b : Bool} (x y : A) → b ≡ false → elim b [ true ↦ x | false ↦ y ] ≡ y
unless x y e = ap (λ b. elim b [ true ↦ x | false ↦ y ]) e

-- ---- the number of states

trace_on_length : (rest : State → List State) (runs : State → Run) → ((τ : State) → length (rest τ) + τ.steps ≡ suc (runs τ).final.steps)
    → (σ : State) {s : Step} → Stepped σ s → suc (length (trace_on rest s)) + σ.steps ≡ suc (go_on runs s).final.steps
unfolding trace_on go_on
trace_on_length rest runs h σ (went {τ = τ} k) =
    alike (λ (xs : List State) (r : Run). suc (length xs) + σ.steps ≡ suc r.final.steps) τ.machine.stopped
    (τ ∷ []) (rest τ) (record { ending = stopped; final = τ }) (runs τ)
    (omega arith) (omega (arith, h τ))
trace_on_length rest runs h σ (stuck m n k) = omega arith
trace_on_length rest runs h σ (unread m n k) = omega arith

-- One more than the steps that are made.
pub trace_length : (l : Limits) (script : List ℕ) (fuel : ℕ) (σ : State) → length (trace l script fuel σ) + σ.steps ≡ suc (run l script fuel σ).final.steps
unfolding trace run finish
trace_length l script zero σ =
    choose (λ (r : Run). 1 + σ.steps ≡ suc r.final.steps) (is_finished script σ) (finish script σ) (record { ending = out_of_fuel; final = σ })
    (λ t. omega arith) (λ t. omega arith)
trace_length l script (suc fuel) σ =
    alike (λ (xs : List State) (r : Run). length xs + σ.steps ≡ suc r.final.steps) (is_finished script σ)
    (σ ∷ []) (σ ∷ trace_on (trace l script fuel) (step l script σ)) (finish script σ) (go_on (run l script fuel) (step l script σ))
    (omega arith) (trace_on_length (trace l script fuel) (run l script fuel) (trace_length l script fuel) σ (step_stepped l script σ))

-- ---- the last state

-- Where the run is finished its end has another `at`, and nothing else.
abbrev pub Agrees : State → State → Type 0
Agrees σ τ = (σ.machine ≡ τ.machine) × (σ.steps ≡ τ.steps)

trace_on_last : (rest : State → List State) (runs : State → Run) → ((d τ : State) → Agrees (last d (rest τ)) (runs τ).final)
    → (σ : State) (s : Step) → Agrees (last σ (trace_on rest s)) (go_on runs s).final
unfolding trace_on go_on last
trace_on_last rest runs h σ (fails e c τ) = (refl, refl)
trace_on_last rest runs h σ (misreads f τ) = (refl, refl)
trace_on_last rest runs h σ (goes τ) =
    alike (λ (xs : List State) (r : Run). Agrees (last σ xs) r.final) τ.machine.stopped
    (τ ∷ []) (rest τ) (record { ending = stopped; final = τ }) (runs τ)
    (refl, refl) (h σ τ)

-- The last state is the one at the end of the run.
pub trace_last : (l : Limits) (script : List ℕ) (fuel : ℕ) (d σ : State) → Agrees (last d (trace l script fuel σ)) (run l script fuel σ).final
unfolding trace run finish last
trace_last l script zero d σ =
    choose (λ (r : Run). Agrees σ r.final) (is_finished script σ) (finish script σ) (record { ending = out_of_fuel; final = σ })
    (λ t. (refl, refl)) (λ t. (refl, refl))
trace_last l script (suc fuel) d σ =
    alike (λ (xs : List State) (r : Run). Agrees (last d xs) r.final) (is_finished script σ)
    (σ ∷ []) (σ ∷ trace_on (trace l script fuel) (step l script σ)) (finish script σ) (go_on (run l script fuel) (step l script σ))
    (refl, refl) (trace_on_last (trace l script fuel) (run l script fuel) (trace_last l script fuel) σ (step l script σ))

-- ---- one state after another

trace_on_first : (rest : State → List State) (d : State) → ((τ : State) → get_or (rest τ) 0 d ≡ τ) → (s : Step) → get_or (trace_on rest s) 0 d ≡ leaves s
unfolding trace_on
trace_on_first rest d h (fails e c τ) = refl
trace_on_first rest d h (misreads f τ) = refl
trace_on_first rest d h (goes τ) = choose (λ (xs : List State). get_or xs 0 d ≡ τ) τ.machine.stopped (τ ∷ []) (rest τ) (λ t. refl) (λ t. h τ)

-- The first state is the one at the start.
pub trace_first : (l : Limits) (script : List ℕ) (fuel : ℕ) (d σ : State) → get_or (trace l script fuel σ) 0 d ≡ σ
unfolding trace
trace_first l script zero d σ = refl
trace_first l script (suc fuel) d σ =
    choose (λ (xs : List State). get_or xs 0 d ≡ σ) (is_finished script σ) (σ ∷ []) (σ ∷ trace_on (trace l script fuel) (step l script σ)) (λ t. refl) (λ t. refl)

-- State n + 1, if there is one, is what a step leaves of state n.
abbrev Next : Limits → List ℕ → State → ℕ → List State → Type 0
Next l script d n xs = suc n < length xs → get_or xs (suc n) d ≡ leaves (step l script (get_or xs n d))

one_only : (l : Limits) (script : List ℕ) (d : State) (n : ℕ) (σ : State) → Next l script d n (σ ∷ [])
one_only l script d n σ h = absurd (omega (arith, h))

trace_on_next : (l : Limits) (script : List ℕ) (d : State) (n : ℕ) (rest : State → List State) → ((τ : State) → Next l script d n (rest τ))
    → (s : Step) → Next l script d n (trace_on rest s)
unfolding trace_on
trace_on_next l script d n rest h (fails e c τ) = one_only l script d n τ
trace_on_next l script d n rest h (misreads f τ) = one_only l script d n τ
trace_on_next l script d n rest h (goes τ) =
    choose (Next l script d n) τ.machine.stopped (τ ∷ []) (rest τ) (λ t. one_only l script d n τ) (λ t. h τ)

pub trace_next : (l : Limits) (script : List ℕ) (d : State) (n fuel : ℕ) (σ : State) → Next l script d n (trace l script fuel σ)
unfolding trace
trace_next l script d n zero σ = one_only l script d n σ
trace_next l script d zero (suc fuel) σ =
    choose (Next l script d 0) (is_finished script σ) (σ ∷ []) (σ ∷ trace_on (trace l script fuel) (step l script σ))
    (λ t. one_only l script d 0 σ) (λ t h. trace_on_first (trace l script fuel) d (trace_first l script fuel d) (step l script σ))
trace_next l script d (suc n) (suc fuel) σ =
    choose (Next l script d (suc n)) (is_finished script σ) (σ ∷ []) (σ ∷ trace_on (trace l script fuel) (step l script σ))
    (λ t. one_only l script d (suc n) σ)
    (λ t h. trace_on_next l script d n (trace l script fuel) (trace_next l script d n fuel) (step l script σ) (omega (arith, h)))

-- ---- less fuel

front_one : (k : ℕ) (σ : State) → σ ∷ [] ≡ take (suc k) (σ ∷ [])
front_one zero σ = refl
front_one (suc k) σ = refl

trace_on_take : (k : ℕ) (rest more : State → List State) → ((τ : State) → rest τ ≡ take (suc k) (more τ)) → (s : Step) → trace_on rest s ≡ take (suc k) (trace_on more s)
unfolding trace_on
trace_on_take k rest more h (fails e c τ) = front_one k τ
trace_on_take k rest more h (misreads f τ) = front_one k τ
trace_on_take k rest more h (goes τ) =
    alike (λ (xs ys : List State). xs ≡ take (suc k) ys) τ.machine.stopped (τ ∷ []) (rest τ) (τ ∷ []) (more τ) (front_one k τ) (h τ)

-- With less fuel a run has the first of the states that it has with more.
pub trace_take : (l : Limits) (script : List ℕ) (k fuel : ℕ) (σ : State) → k ≤ fuel → trace l script k σ ≡ take (suc k) (trace l script fuel σ)
unfolding trace
trace_take l script zero zero σ few = refl
trace_take l script zero (suc fuel) σ few =
    choose (λ (xs : List State). σ ∷ [] ≡ take 1 xs) (is_finished script σ) (σ ∷ []) (σ ∷ trace_on (trace l script fuel) (step l script σ)) (λ t. refl) (λ t. refl)
trace_take l script (suc k) zero σ few = absurd (omega (arith, few))
trace_take l script (suc k) (suc fuel) σ few =
    alike (λ (xs ys : List State). xs ≡ take (suc (suc k)) ys) (is_finished script σ)
    (σ ∷ []) (σ ∷ trace_on (trace l script k) (step l script σ)) (σ ∷ []) (σ ∷ trace_on (trace l script fuel) (step l script σ))
    refl (ap (λ (xs : List State). σ ∷ xs) (trace_on_take k (trace l script k) (trace l script fuel) (λ τ. trace_take l script k fuel τ (omega (arith, few))) (step l script σ)))

-- ---- each way on

module _ (l : Limits) (script : List ℕ) (σ : State) where
  pub trace_finished : (n : ℕ) → is_finished script σ ≡ true → trace l script n σ ≡ σ ∷ []
  unfolding trace
  trace_finished zero f = refl
  trace_finished (suc n) f = when (σ ∷ []) (σ ∷ trace_on (trace l script n) (step l script σ)) f

  pub run_finished : (n : ℕ) → is_finished script σ ≡ true → run l script n σ ≡ finish script σ
  unfolding run
  run_finished zero f = when (finish script σ) (record { ending = out_of_fuel; final = σ }) f
  run_finished (suc n) f = when (finish script σ) (go_on (run l script n) (step l script σ)) f

  pub trace_spent : trace l script 0 σ ≡ σ ∷ []
  unfolding trace
  trace_spent = refl

  pub run_spent : is_finished script σ ≡ false → run l script 0 σ ≡ record { ending = out_of_fuel; final = σ }
  unfolding run
  run_spent f = unless (finish script σ) (record { ending = out_of_fuel; final = σ }) f

  module _ (n : ℕ) (more : is_finished script σ ≡ false) where
    trace_on_lem : trace l script (suc n) σ ≡ σ ∷ trace_on (trace l script n) (step l script σ)
    unfolding trace
    trace_on_lem = unless (σ ∷ []) (σ ∷ trace_on (trace l script n) (step l script σ)) more

    run_on : run l script (suc n) σ ≡ go_on (run l script n) (step l script σ)
    unfolding run
    run_on = unless (finish script σ) (go_on (run l script n) (step l script σ)) more

    pub trace_fails : {e : Error} {c : List ℕ} {τ : State} → step l script σ ≡ fails e c τ → trace l script (suc n) σ ≡ σ ∷ τ ∷ []
    unfolding trace_on
    trace_fails s = trace_on_lem ∙ ap (λ x. σ ∷ trace_on (trace l script n) x) s

    pub run_fails : {e : Error} {c : List ℕ} {τ : State} → step l script σ ≡ fails e c τ → run l script (suc n) σ ≡ record { ending = failed e c; final = τ }
    unfolding go_on
    run_fails s = run_on ∙ ap (go_on (run l script n)) s

    pub trace_misreads : {f : Fault} {τ : State} → step l script σ ≡ misreads f τ → trace l script (suc n) σ ≡ σ ∷ τ ∷ []
    unfolding trace_on
    trace_misreads s = trace_on_lem ∙ ap (λ x. σ ∷ trace_on (trace l script n) x) s

    pub run_misreads : {f : Fault} {τ : State} → step l script σ ≡ misreads f τ → run l script (suc n) σ ≡ record { ending = misread f; final = τ }
    unfolding go_on
    run_misreads s = run_on ∙ ap (go_on (run l script n)) s

    module _ {τ : State} (s : step l script σ ≡ goes τ) where
      pub trace_stops : τ.machine.stopped ≡ true → trace l script (suc n) σ ≡ σ ∷ τ ∷ []
      unfolding trace_on
      trace_stops t = trace_on_lem ∙ ap (λ x. σ ∷ trace_on (trace l script n) x) s ∙ ap (λ x. σ ∷ x) (when (τ ∷ []) (trace l script n τ) t)

      pub run_stops : τ.machine.stopped ≡ true → run l script (suc n) σ ≡ record { ending = stopped; final = τ }
      unfolding go_on
      run_stops t = run_on ∙ ap (go_on (run l script n)) s ∙ when (record { ending = stopped; final = τ }) (run l script n τ) t

      pub trace_goes : τ.machine.stopped ≡ false → trace l script (suc n) σ ≡ σ ∷ trace l script n τ
      unfolding trace_on
      trace_goes t = trace_on_lem ∙ ap (λ x. σ ∷ trace_on (trace l script n) x) s ∙ ap (λ x. σ ∷ x) (unless (τ ∷ []) (trace l script n τ) t)

      pub run_goes : τ.machine.stopped ≡ false → run l script (suc n) σ ≡ run l script n τ
      unfolding go_on
      run_goes t = run_on ∙ ap (go_on (run l script n)) s ∙ unless (record { ending = stopped; final = τ }) (run l script n τ) t
