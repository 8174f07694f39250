-- The line that an echo step adds stands in the log of the whole run, where the log ended before the step: the next state is the step's, and the log only grows.
-- Assumes nothing.
use mathlib.Core.Path.{◌≡◌, refl, sym, ap, ◌∙◌}
use mathlib.Core.Bool.{Bool, true, false}
use mathlib.Core.List.{List, ◌++◌, append_assoc}
use Prim.Native.Nat.{ℕ, zero, suc, ◌-◌, ◌<◌}
use native.Mathlib.Omega.{arith}
use lib.ListN.{length, take, drop, length-append}
use lib.Seq.{drop-append_seam, take-append_seam}
use Rattle.semantics.specs.Values.{Value}
use Rattle.semantics.specs.Machine.{Machine}
use Rattle.semantics.specs.Steps.{Limits, State, Step, goes, fails, misreads, step, Ending, finished, stopped, failed, misread, out_of_fuel, Run, is_finished, finish, go_on, run}
use Rattle.semantics.specs.ResultLaws.{choose}
use Rattle.growth.proofs.StepGrowth.{run_log}
use Rattle.echo_laws.specs.Runs.{line_of}
use Rattle.echo_laws.proofs.Runs.{Trial, state_of, machine_of, Echoing, next, GoesOn, stretch}
use Rattle.echo_laws.proofs.RunEchoes.{echo_adds}

-- ---- the next state

-- Whether a run ended for want of fuel.
abbrev is_spent : Ending → Bool
is_spent finished = false
is_spent stopped = false
is_spent out_of_fuel = true
is_spent (failed e c) = false
is_spent (misread f) = false

-- Another ending is not.
no_spent : {e : Ending} → is_spent e ≡ false → e ≡ out_of_fuel → ⊥
no_spent h e =
    let z : ◌≡◌ {A = Bool} false true = sym h ∙ ap is_spent e in
    let n : ◌≡◌ {A = ℕ} 0 1 = cc in
    omega arith

module _ (l : Limits) (script : List ℕ) where
  abbrev Next : Run → Run → Type 0
  Next r r' = r.ending ≡ out_of_fuel → r' ≡ go_on (run l script zero) (step l script r.final)

  go_on_next : (k : ℕ) → ((τ : State) → Next (run l script k τ) (run l script (suc k) τ)) → (s : Step) → Next (go_on (run l script k) s) (go_on (run l script (suc k)) s)
  unfolding go_on
  go_on_next k f (fails e c τ) h = absurd (no_spent refl h)
  go_on_next k f (misreads e τ) h = absurd (no_spent refl h)
  go_on_next k f (goes τ) h = by τ.machine.stopped h
    where
      by : (b : Bool) → Next (elim b [ true ↦ record { ending = stopped; final = τ } | false ↦ run l script k τ ]) (elim b [ true ↦ record { ending = stopped; final = τ } | false ↦ run l script (suc k) τ ])
      by true h = absurd (no_spent refl h)
      by false h = f τ h

  -- A run that has not come to its end goes on by one step.
  run_next : (k : ℕ) (σ : State) → Next (run l script k σ) (run l script (suc k) σ)
  unfolding run finish
  run_next zero σ h = by (is_finished script σ) h
    where
      by : (b : Bool) → Next (elim b [ true ↦ finish script σ | false ↦ record { ending = out_of_fuel; final = σ } ]) (elim b [ true ↦ finish script σ | false ↦ go_on (run l script zero) (step l script σ) ])
      by true h = absurd (no_spent refl h)
      by false h = refl
  run_next (suc k) σ h = by (go_on_next k (run_next k) (step l script σ)) (is_finished script σ) h
    where
      by : Next (go_on (run l script k) (step l script σ)) (go_on (run l script (suc k)) (step l script σ))
          → (b : Bool)
          → Next (elim b [ true ↦ finish script σ | false ↦ go_on (run l script k) (step l script σ) ]) (elim b [ true ↦ finish script σ | false ↦ go_on (run l script (suc k)) (step l script σ) ])
      by f true h = absurd (no_spent refl h)
      by f false h = f h

went_machine : (l : Limits) (script : List ℕ) (τ : State) → (go_on (run l script zero) (goes τ)).final.machine ≡ τ.machine
unfolding go_on run finish
went_machine l script τ =
    choose (λ (r : Run). r.final.machine ≡ τ.machine) τ.machine.stopped (record { ending = stopped; final = τ }) (run l script zero τ)
    (λ t. refl)
    (λ t. choose (λ (r : Run). r.final.machine ≡ τ.machine) (is_finished script τ) (finish script τ) (record { ending = out_of_fuel; final = τ }) (λ u. refl) (λ u. refl))

-- The next state of a run has the machine that the step leaves.
pub next_machine : (r : Trial) (τ : State) → GoesOn r → step r.lent r.script (state_of r) ≡ goes τ → machine_of (next r) ≡ τ.machine
next_machine r τ h e =
    ap (λ (q : Run). q.final.machine) (run_next r.lent r.script r.fuel r.start h)
    ∙ ap (λ (s : Step). (go_on (run r.lent r.script zero) s).final.machine) e
    ∙ went_machine r.lent r.script τ

-- ---- the line

-- What was added first to the bytes a, of what is there in the end.
between : (a b c : List ℕ) {whole : List ℕ} → whole ≡ (a ++ b) ++ c → take (length (a ++ b) - length a) (drop (length a) whole) ≡ b
between a b c {whole} e =
    let n : length (a ++ b) - length a ≡ length b = omega (arith, length-append a b) in
    ap (λ (w : List ℕ). take (length (a ++ b) - length a) (drop (length a) w)) (e ∙ append_assoc a b c)
    ∙ ap (λ (w : List ℕ). take (length (a ++ b) - length a) w) (drop-append_seam a (b ++ c))
    ∙ ap (λ (k : ℕ). take k (b ++ c)) n
    ∙ take-append_seam b c

-- The line that an echo step adds, in the log of the run with any fuel for that step, whatever follows the log.
pub line_stands : (r : Trial) (v : Value) (n : ℕ) (more : List ℕ)
    → Echoing r v
    → GoesOn r
    → r.fuel < n
    → stretch r ((run r.lent r.script n r.start).final.machine.log ++ more) ≡ line_of (machine_of r) v
line_stands r v n more e h l =
    let grown = run_log r.lent r.script (suc r.fuel) n l r.start in
    let before = (machine_of r).log in
    let whole = (run r.lent r.script n r.start).final.machine.log in
    let line = line_of (machine_of r) v in
    let x = echo_adds r v e in
    let now : (machine_of (next r)).log ≡ before ++ line =
    ap (λ (m : Machine). m.log) (next_machine r x.after h x.goes) ∙ x.log
    in
    let is : whole ++ more ≡ (before ++ line) ++ (grown.added ++ more) =
    ap (λ (a : List ℕ). a ++ more) (grown.whole ∙ ap (λ (a : List ℕ). a ++ grown.added) now) ∙ append_assoc (before ++ line) grown.added more
    in
    ap (λ (a : List ℕ). take (length a - length before) (drop (length before) (whole ++ more))) now ∙ between before line (grown.added ++ more) is
