-- A step never shortens or changes what the log holds: of the changes that a step is made of only one touches the log, and it writes at its end.
-- Assumes nothing.
use mathlib.Core.Path.{◌≡◌}
use mathlib.Core.List.{List}
use Prim.Native.Nat.{ℕ, ◌≤◌}
use native.Mathlib.Omega.{arith}
use lib.ListN.{length}
use Rattle.semantics.specs.Machine.{Machine, machinery}
use Rattle.semantics.specs.Steps.{Limits, State, goes, step, run}
use Rattle.semantics.specs.ListLaws.{all_any}
use Rattle.growth.specs.Growth.{Extends}
use Rattle.growth.proofs.Logs.{extends_itself, extends_more, extends_then, extends_length}
use Rattle.walk.proofs.Parts.{nothing_asked, asked_nowhere}
use Rattle.walk.proofs.Property.{Property}
use Rattle.walk.proofs.StepsKeep.{step_goes}
use Rattle.walk.proofs.RunsLater.{run_later}

-- L: the log before the step. Nothing is asked of the parts.
unfoldable log_grows : List ℕ → Property
unfolding machinery
log_grows L =
    record {
      parts = nothing_asked;
      base = 0;
      Whole = λ m. Extends L m.log;
      since = λ m h. omega arith;
      other_stack = λ s m h. h;
      other_dictionary = λ d m h. h;
      other_exec = λ e m h. h;
      other_handler = λ n v m t h. h;
      other_latest = λ t m h. h;
      halting = λ m h. h;
      writing = λ t m h. extends_more h t;
      making = λ o m h. h;
      protecting = λ i m a h. h;
      changing = λ i o m a h. h;
      filling = λ i o m b h. h;
    }

pub step_log : (l : Limits) (script : List ℕ) (σ τ : State) → step l script σ ≡ goes τ → Extends σ.machine.log τ.machine.log
unfolding log_grows nothing_asked
step_log l script σ τ e =
    (step_goes (log_grows σ.machine.log) l script σ τ (all_any script) tt tt e (record { parts = asked_nowhere σ.machine; whole = extends_itself σ.machine.log })
    ).whole

pub step_log_length : (l : Limits) (script : List ℕ) (σ τ : State)
    → step l script σ ≡ goes τ
    → length σ.machine.log ≤ length τ.machine.log
step_log_length l script σ τ e = extends_length (step_log l script σ τ e)

-- Each later state of a run has the log of each earlier one, and perhaps more after it.
pub run_log : (l : Limits) (script : List ℕ) (early late : ℕ)
    → early ≤ late
    → (σ : State)
    → Extends (run l script early σ).final.machine.log (run l script late σ).final.machine.log
run_log l script early late h σ =
    run_later (λ (m : Machine). Unit {0}) (λ (a b : Machine). Extends a.log b.log) l script (λ m. extends_itself m.log) (λ a b c. extends_then)
    (λ σ τ k e. (tt, step_log l script σ τ e))
    early
    late
    h
    σ
    tt
