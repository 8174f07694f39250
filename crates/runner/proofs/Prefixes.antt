-- A run that was given less fuel left its words exact for a state of the run with more: what the caller holds after k steps is what the definition has after k
-- steps, for every run that goes on from there.
-- Assumes nothing.
use mathlib.Core.Path.{◌≡◌, refl, sym, ap, ◌∙◌, subst}
use mathlib.Core.List.{List}
use Prim.Native.Nat.{ℕ, suc, ◌+◌, ◌-◌, ◌≤◌, ◌<◌}
use native.Mathlib.Omega.{arith}
use lib.ListN.{length, get_or, take}
use lib.Seq.{length-take-le, get_or-take}
use Rattle.semantics.specs.Steps as steps
use Rattle.semantics.specs.Steps.{Limits}
use Rattle.semantics.specs.Setup.{limits}
use Rattle.exactness.specs.Traces.{trace}
use Rattle.exactness.proofs.Lists.{along_length, along_at, last_at}
use Rattle.exactness.proofs.Tracing.{trace_take}
use Rattle.step.specs.declared.State.{State}
use Rattle.run_loop.specs.History.{Moment, moment, limits_of, Exactly}
use Rattle.run_loop.proofs.Chains.{chain_some, chain_last}
use Rattle.runner.specs.Promise.{lent_of, whole, RunIs}
use Rattle.runner.specs.declared.Report.{Report}

-- The definition's states of a run with what is lent.
abbrev pub states_of : List ℕ → ℕ → steps.State → List ℕ → List ℕ → List ℕ → List ℕ → List ℕ → List ℕ → List steps.State
states_of script fuel σ₀ s e d c l o = trace (limits (lent_of s e d c l o)) script fuel σ₀

-- What the run left: the small state that it reports, with the offsets at its last moment, and the words of whole slots.
abbrev pub left_moment : State → Report → List ℕ → List ℕ → List ℕ → List ℕ → List ℕ → Moment
left_moment σ r s e d c l = moment (record { machine = r.machine; next = σ.next; at = σ.at; steps = r.steps }) (whole 2 s) (whole 8 e) (whole 12 d) (whole 4 c) l

moment_by : {x y : Moment} {σ : steps.State} → x.state.machine ≡ y.state.machine → x.state.next ≡ y.state.next → x.state.at ≡ y.state.at → x.state.steps ≡ y.state.steps
    → x.stack ≡ y.stack → x.exec ≡ y.exec → x.dict ≡ y.dict → x.cells ≡ y.cells → x.log ≡ y.log → Exactly x σ → Exactly y σ
moment_by m n a k s e d c l E = rw (sym m, sym n, sym a, sym k, sym s, sym e, sym d, sym c, sym l) E

module _ {script : List ℕ} {k : ℕ} {σ₀ : steps.State} {touched worked : ℕ} {s s' e e' d d' c c' l l' o o' : List ℕ} {r : Report} (R : RunIs script k σ₀ touched worked s s' e e' d d' c c' l l' o o' r) (fuel : ℕ) (more : k ≤ fuel) where
  -- The history's states are the first of those with more fuel.
  first_states : trace (limits_of R.recorded.first) script k σ₀ ≡ take (suc k) (states_of script fuel σ₀ s e d c l o)
  first_states = ap (λ (m : Limits). trace m script k σ₀) R.room ∙ trace_take (limits (lent_of s e d c l o)) script k fuel σ₀ more

  -- No step is taken back.
  counted_on : σ₀.steps ≤ r.steps
  counted_on = omega (arith, R.counted, chain_some R.recorded.history.chain)

  many : length (take (suc k) (states_of script fuel σ₀ s e d c l o)) ≡ suc (r.steps - σ₀.steps)
  many = sym (ap (λ (xs : List steps.State). length xs) first_states) ∙ sym (along_length R.recorded.history.exact) ∙ omega (arith, R.counted, counted_on)

  -- A run with fuel k makes k steps, if the run with more fuel has a state k.
  pub all_steps : k < length (states_of script fuel σ₀ s e d c l o) → r.steps ≡ σ₀.steps + k
  all_steps low = omega (arith, many, counted_on, length-take-le (suc k) (states_of script fuel σ₀ s e d c l o) low)

  -- The last moment is exact for the state with its number of steps.
  last_exact : Exactly R.recorded.last (get_or (states_of script fuel σ₀ s e d c l o) (r.steps - σ₀.steps) σ₀)
  last_exact =
      let H = R.recorded.history in
      let there = along_at H.exact R.recorded.first σ₀ (r.steps - σ₀.steps) (omega (arith, R.counted, counted_on)) in
      let is_last : get_or H.moments (r.steps - σ₀.steps) R.recorded.first ≡ R.recorded.last =
      sym (last_at R.recorded.first R.recorded.first H.moments (r.steps - σ₀.steps) (omega (arith, R.counted, counted_on))) ∙ chain_last H.chain R.recorded.first in
      let is_state : get_or (trace (limits_of R.recorded.first) script k σ₀) (r.steps - σ₀.steps) σ₀ ≡ get_or (states_of script fuel σ₀ s e d c l o) (r.steps - σ₀.steps) σ₀ =
      ap (λ (xs : List steps.State). get_or xs (r.steps - σ₀.steps) σ₀) first_states ∙ get_or-take (suc k) (states_of script fuel σ₀ s e d c l o) (r.steps - σ₀.steps) σ₀ (omega (arith, R.fueled, counted_on)) in
      subst (Exactly R.recorded.last) is_state (subst (λ x. Exactly x (get_or (trace (limits_of R.recorded.first) script k σ₀) (r.steps - σ₀.steps) σ₀)) is_last there)

  -- What a run with fuel k left is exact for state `steps` of the run with any greater fuel. That is state k, unless the run came to its end before.
  pub left_exact : Exactly (left_moment R.recorded.last.state r s' e' d' c' l') (get_or (states_of script fuel σ₀ s e d c l o) (r.steps - σ₀.steps) σ₀)
  left_exact =
      let H = R.recorded.holds in
      moment_by R.state.0 refl refl R.state.1 H.0 H.1 H.2 H.3 H.4 last_exact
