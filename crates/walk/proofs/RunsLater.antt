-- What holds of the machines before and after each step holds of each earlier and each later machine of a run, if it holds of a machine and itself and goes on from
-- one step to the next. The states of a run are its final states at each lesser fuel.
-- Assumes nothing.
use mathlib.Core.Path.{◌≡◌, refl, sym, subst}
use mathlib.Core.Bool.{Bool, true, false}
use mathlib.Core.List.{List}
use Prim.Native.Nat.{ℕ, zero, suc, ◌≤◌}
use native.Mathlib.Omega.{arith}
use Rattle.semantics.specs.Machine.{Machine}
use Rattle.semantics.specs.Steps.{Limits, State, Step, goes, step, Run, stopped, out_of_fuel, is_finished, finish, go_on, run}
use Rattle.semantics.specs.RunLaws.{Stepped, went, stuck, unread}
use Rattle.semantics.proofs.RunLaws.{step_stepped}
use Rattle.semantics.specs.ResultLaws.{choose}

-- Two choices by one test.
choose_both : {A : Type 0} (R : A → A → Type 0) (b : Bool) (x y x' y' : A)
    → R x x'
    → R y y'
    → R (elim b [ true ↦ x | false ↦ y ]) (elim b [ true ↦ x' | false ↦ y' ])
choose_both R true x y x' y' f g = f
choose_both R false x y x' y' f g = g

-- Kept: what steps keep, on which the relation may rest.
module _ (Kept : Machine → Type 0) (R : Machine → Machine → Type 0) (l : Limits) (script : List ℕ)
    (itself : (m : Machine) → R m m)
    (then : (a b c : Machine) → R a b → R b c → R a c)
    (steps : (σ τ : State) → Kept σ.machine → step l script σ ≡ goes τ → Kept τ.machine × R σ.machine τ.machine)
  where
    abbrev Later : Run → Run → Type 0
    Later r r' = R r.final.machine r'.final.machine

    abbrev From : Machine → Run → Type 0
    From m r = R m r.final.machine

    go_on_from : (σ : State)
        → Kept σ.machine
        → (rest : State → Run)
        → ((τ : State) → Kept τ.machine → From τ.machine (rest τ))
        → {s : Step}
        → step l script σ ≡ s
        → Stepped σ s
        → From σ.machine (go_on rest s)
    unfolding go_on
    go_on_from σ k rest f e (stuck h n c) = subst (R σ.machine) (sym h) (itself σ.machine)
    go_on_from σ k rest f e (unread h n c) = subst (R σ.machine) (sym h) (itself σ.machine)
    go_on_from σ k rest f e (went {τ = τ} c) =
        let now = steps σ τ k e in
        choose (From σ.machine) τ.machine.stopped (record { ending = stopped; final = τ }) (rest τ)
        (λ t. now.1)
        (λ t. then σ.machine τ.machine (rest τ).final.machine now.1 (f τ now.0))

    pub run_from : (fuel : ℕ) (σ : State) → Kept σ.machine → From σ.machine (run l script fuel σ)
    unfolding run finish
    run_from zero σ k =
        choose (From σ.machine) (is_finished script σ) (finish script σ) (record { ending = out_of_fuel; final = σ })
        (λ t. itself σ.machine)
        (λ t. itself σ.machine)
    run_from (suc fuel) σ k =
        choose (From σ.machine) (is_finished script σ) (finish script σ) (go_on (run l script fuel) (step l script σ))
        (λ t. itself σ.machine)
        (λ t. go_on_from σ k (run l script fuel) (run_from fuel) refl (step_stepped l script σ))

    go_on_later : (σ : State)
        → Kept σ.machine
        → (rest rest' : State → Run)
        → ((τ : State) → Kept τ.machine → Later (rest τ) (rest' τ))
        → {s : Step}
        → step l script σ ≡ s
        → Stepped σ s
        → Later (go_on rest s) (go_on rest' s)
    unfolding go_on
    go_on_later σ k rest rest' f e (stuck {τ = τ} h n c) = itself τ.machine
    go_on_later σ k rest rest' f e (unread {τ = τ} h n c) = itself τ.machine
    go_on_later σ k rest rest' f e (went {τ = τ} c) =
        choose_both Later τ.machine.stopped (record { ending = stopped; final = τ }) (rest τ) (record { ending = stopped; final = τ }) (rest' τ)
        (itself τ.machine)
        (f τ (steps σ τ k e).0)

    pub run_later : (early late : ℕ)
        → early ≤ late
        → (σ : State)
        → Kept σ.machine
        → R (run l script early σ).final.machine (run l script late σ).final.machine
    unfolding run finish
    run_later zero late h σ k =
        choose (λ (r : Run). Later r (run l script late σ)) (is_finished script σ) (finish script σ) (record { ending = out_of_fuel; final = σ })
        (λ t. run_from late σ k)
        (λ t. run_from late σ k)
    run_later (suc early) zero h σ k = absurd (omega (arith, h))
    run_later (suc early) (suc late) h σ k =
        choose_both Later (is_finished script σ) (finish script σ) (go_on (run l script early) (step l script σ)) (finish script σ)
        (go_on (run l script late) (step l script σ))
        (itself σ.machine)
        (go_on_later σ k (run l script early) (run l script late) (run_later early late (omega (arith, h))) refl (step_stepped l script σ))
