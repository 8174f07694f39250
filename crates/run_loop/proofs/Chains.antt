-- Every chain of moments from an exact start is exact along the definition's states: a step of the runner, of whatever kind, leaves what the definition's step
-- leaves. So the history that a run has is no choice of its own.
-- Assumes nothing.
use mathlib.Core.Path.{◌≡◌, refl, sym, ap, ◌∙◌, subst}
use mathlib.Core.List.{List, [], ◌∷◌, ◌++◌}
use Prim.Native.Nat.{ℕ, suc, ◌≤◌, ◌<◌}
use native.Mathlib.Omega.{arith}
use lib.ListN.{length, get_or, take, length-append, get_or-append}
use lib.Seq.{take-suc}
use Rattle.semantics.specs.Machine as Floo
use Rattle.semantics.specs.Steps as steps
use Rattle.semantics.specs.Steps.{Limits, step}
use Rattle.machine.specs.Rep.{Rep}
use Rattle.exactness.specs.Traces.{leaves, trace, last, Along, nil, cons}
use Rattle.exactness.proofs.Lists.{along_snoc, last_snoc}
use Rattle.exactness.proofs.Tracing.{trace_first, trace_next, trace_take, trace_spent}
use Rattle.step.specs.Stepping.{state_of, SteppedAs}
use Rattle.step.specs.declared.State.{State}
use Rattle.step.specs.declared.Stepped.{Stepped}
use Rattle.step.specs.declared.Stepped.TheVariants.{Goes, Fails, Misreads}
use Rattle.run_loop.specs.History.{Moment, moment, limits_of, left_by, Leads, Chain, start, then, Exactly}
use Rattle.run_loop.proofs.Running.{exactly}

-- ---- one step

-- The state that a moment is exact for, of the moment's own offsets and count.
same_state : {x : Moment} {σ : steps.State} → Exactly x σ → state_of x.state σ.machine ≡ σ
same_state {x} {σ} E =
    ap (λ n. record { machine = σ.machine; next = n; at = x.state.at; steps = x.state.steps }) E.next
    ∙ ap (λ n. record { machine = σ.machine; next = σ.next; at = n; steps = x.state.steps }) E.at
    ∙ ap (λ n. record { machine = σ.machine; next = σ.next; at = σ.at; steps = n }) E.steps

-- A step that ends the run.
unmoved_exact : (script : List ℕ) (x : Moment) {y : Moment} (μ : Floo.Machine) (τ : State) {r : steps.Step}
    → step (limits_of x) script (state_of x.state μ) ≡ r
    → Rep τ.machine y.stack y.exec y.dict y.cells y.log μ
    → leaves r ≡ state_of τ μ
    → τ ≡ y.state
    → Exactly y (leaves (step (limits_of x) script (state_of x.state μ)))
unmoved_exact script x {y} μ τ is R to q =
    subst (λ s. Exactly y (leaves s)) (sym is)
    (subst (Exactly y) (sym to) (subst (λ ρ. Exactly (moment ρ y.stack y.exec y.dict y.cells y.log) (state_of τ μ)) q (exactly R)))

answered : (script : List ℕ) (x : Moment) {y : Moment} (μ : Floo.Machine) (answer : Stepped)
    → SteppedAs script x.state x.stack y.stack x.exec y.exec x.dict y.dict x.cells y.cells x.log y.log μ answer
    → left_by answer ≡ y.state
    → Exactly y (leaves (step (limits_of x) script (state_of x.state μ)))
answered script x {y} μ (Goes τ) A q =
    subst (λ s. Exactly y (leaves s)) (sym A.1)
    (subst (λ ρ. Exactly (moment ρ y.stack y.exec y.dict y.cells y.log) (state_of τ A.0)) q (exactly A.2))
answered script x {y} μ (Fails τ e command) A q = unmoved_exact script x μ τ A.0 A.1 refl q
answered script x {y} μ (Misreads τ command f) A q = unmoved_exact script x μ τ A.0 A.1 refl q

-- A moment that an exact one leads to is exact for what the definition's step leaves.
pub led : {script : List ℕ} {x y : Moment} {σ : steps.State} → Leads script x y → Exactly x σ → Exactly y (leaves (step (limits_of x) script σ))
led {script} {x} {y} {σ} L E =
    subst (λ τ. Exactly y (leaves (step (limits_of x) script τ))) (same_state E)
    (answered script x σ.machine L.answer (L.steps.steps σ.machine E.stands) L.left)

-- ---- chains

-- The definition's states from σ on, with the room of a moment.
abbrev states_from : List ℕ → Moment → ℕ → steps.State → List steps.State
states_from script first fuel σ = trace (limits_of first) script fuel σ

-- The last of n + 1 moments is exact for state n, and all are, one by one.
record Follows (script : List ℕ) (first : Moment) (fuel : ℕ) (σ : steps.State) (xs : List Moment) (x : Moment) (n : ℕ) : Type 0 where
  long : length xs ≡ suc n
  along : Along Exactly xs (take (suc n) (states_from script first fuel σ))
  here : Exactly x (get_or (states_from script first fuel σ) n σ)

module _ {script : List ℕ} {first : Moment} where
  -- The room is that of the first.
  pub chain_room : {xs : List Moment} {x : Moment} → Chain script first xs x → limits_of x ≡ limits_of first
  chain_room start = refl
  chain_room (then C L) = L.room ∙ chain_room C

  pub chain_some : {xs : List Moment} {x : Moment} → Chain script first xs x → 0 < length xs
  chain_some start = omega arith
  chain_some (then {xs = xs} {y = y} C L) = omega (arith, length-append xs (y ∷ []))

  pub chain_first : {xs : List Moment} {x : Moment} → Chain script first xs x → (d : Moment) → get_or xs 0 d ≡ first
  chain_first start d = refl
  chain_first (then {xs = xs} {y = y} C L) d = get_or-append xs (y ∷ []) d 0 (chain_some C) ∙ chain_first C d

  pub chain_last : {xs : List Moment} {x : Moment} → Chain script first xs x → (d : Moment) → last d xs ≡ x
  unfolding last
  chain_last start d = refl
  chain_last (then {xs = xs} {y = y} C L) d = last_snoc d xs y

  module _ (fuel : ℕ) {σ : steps.State} (E : Exactly first σ) where
    follows : {xs : List Moment} {x : Moment} → Chain script first xs x → length xs ≤ length (states_from script first fuel σ) → (n : ℕ) × Follows script first fuel σ xs x n
    follows start b = (
      0,
      record {
        long = refl;
        along = subst (Along Exactly (first ∷ [])) (sym (trace_spent (limits_of first) script σ) ∙ trace_take (limits_of first) script 0 fuel σ (omega arith)) (cons E nil);
        here = subst (Exactly first) (sym (trace_first (limits_of first) script fuel σ σ)) E;
      },
    )
    follows (then {xs = xs} {x = x} {y = y} C L) b =
        let (n, F) = follows C (omega (arith, length-append xs (y ∷ []), b)) in
        let low : suc n < length (states_from script first fuel σ) = omega (arith, length-append xs (y ∷ []), b, F.long) in
        let E' : Exactly y (get_or (states_from script first fuel σ) (suc n) σ) =
        subst (Exactly y) (sym (trace_next (limits_of first) script σ n fuel σ low))
        (subst (λ (m : Limits). Exactly y (leaves (step m script (get_or (states_from script first fuel σ) n σ)))) (chain_room C) (led L F.here)) in (
          suc n,
          record {
            long = omega (arith, length-append xs (y ∷ []), F.long);
            along = subst (Along Exactly (xs ++ (y ∷ []))) (sym (take-suc (states_from script first fuel σ) (suc n) σ low)) (along_snoc F.along E');
            here = E';
          },
        )

    -- Every chain that begins with an exact moment, and is no longer than the definition's list of states, is exact along that list.
    pub every_chain : {xs : List Moment} {x : Moment}
        → Chain script first xs x
        → length xs ≤ length (trace (limits_of first) script fuel σ)
        → Along Exactly xs (take (length xs) (trace (limits_of first) script fuel σ))
    every_chain {xs} C b =
        let (n, F) = follows C b in
        subst (λ k. Along Exactly xs (take k (states_from script first fuel σ))) (sym F.long) F.along
