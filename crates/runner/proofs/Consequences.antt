-- What follows of `run` from its promise by laws of the definition and of chains: no other history is possible, the outcome is ASCII, and held is summed over each
-- object once.
-- Assumes nothing.
use mathlib.Core.Path.{◌≡◌, sym, ap, ◌∙◌, subst}
use mathlib.Core.List.{List}
use Prim.Native.Nat.{ℕ, ◌≤◌}
use native.Mathlib.Omega.{arith}
use lib.ListN.{length, get_or, take}
use lib.Seq.{take_at}
use Rattle.semantics.specs.Held.{held}
use Rattle.semantics.specs.HeldLaws.{Once}
use Rattle.semantics.proofs.HeldLaws.{held_once}
use Rattle.semantics.specs.Steps as steps
use Rattle.semantics.specs.Steps.{Limits}
use Rattle.semantics.specs.ObjectOperators.{pasted}
use Rattle.semantics.specs.AsciiLaws.{Ascii, Bytes}
use Rattle.exactness.specs.Traces.{trace, Along}
use Rattle.exactness.proofs.Lists.{along_at}
use Rattle.exactness.proofs.Tracing.{trace_first}
use Rattle.run_loop.specs.History.{Moment, limits_of, Chain, Exactly}
use Rattle.run_loop.proofs.Chains.{chain_some, chain_first, every_chain}
use Rattle.runner.specs.Promise.{lent_of, the_run, RunIs}
use Rattle.runner.specs.declared.Report.{Report}
use Rattle.runner.proofs.Prefixes.{states_of}

module _ {script : List ℕ} {k : ℕ} {σ₀ : steps.State} {touched worked : ℕ} {s s' e e' d d' c c' l l' o o' : List ℕ} {r : Report} (R : RunIs script k σ₀ touched worked s s' e e' d d' c c' l l' o o' r) where
  first_exact : Exactly R.recorded.first σ₀
  first_exact =
      let H = R.recorded.history in
      let F = R.recorded.first in
      subst (Exactly F) (trace_first (limits_of F) script k σ₀ σ₀)
      (subst (λ (x : Moment). Exactly x (get_or (trace (limits_of F) script k σ₀) 0 σ₀)) (chain_first H.chain F) (along_at H.exact F σ₀ 0 (chain_some H.chain)))

  -- Every list of moments from the first one, each led to by a step from the one before, is exact along the definition's states with any fuel.
  pub every_history : (fuel : ℕ) {xs : List Moment} {x : Moment}
      → Chain script R.recorded.first xs x
      → length xs ≤ length (states_of script fuel σ₀ s e d c l o)
      → Along Exactly xs (take (length xs) (states_of script fuel σ₀ s e d c l o))
  every_history fuel {xs} C b =
      let room : states_of script fuel σ₀ s e d c l o ≡ trace (limits_of R.recorded.first) script fuel σ₀ = ap (λ (m : Limits). trace m script fuel σ₀) (sym R.room) in
      subst (λ (ys : List steps.State). Along Exactly xs (take (length xs) ys)) (sym room)
      (every_chain fuel first_exact C (subst (λ (ys : List steps.State). length xs ≤ length ys) room b))

  -- The bytes of the outcome are ASCII.
  pub outcome_readable : Bytes script → Ascii (take r.outcome o')
  unfolding pasted
  outcome_readable b =
      let W = R.outcome in
      subst Ascii (sym (ap (take r.outcome) W.bytes ∙ take_at _ _ r.outcome (omega (arith, W.end)))) (R.ascii b)

  -- The held that it reports is a sum over objects of which none is counted twice.
  pub held_counts_once : Once (held (the_run script k (lent_of s e d c l o) σ₀).final.machine)
  held_counts_once = held_once (the_run script k (lent_of s e d c l o) σ₀).final.machine
