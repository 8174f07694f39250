-- In every state of a run the handlers stand by the errors' names, in their order: onerror alone changes them, and binds a name that has its slot.
-- Assumes nothing.
use mathlib.Core.Path.{◌≡◌, refl, ◌∙◌}
use mathlib.Core.Bool.{Bool, true, false}
use mathlib.Core.List.{List}
use Prim.Native.Nat.{ℕ}
use native.Mathlib.Omega.{arith}
use lib.Dec.{T}
use Rattle.semantics.specs.Errors.{error_names}
use Rattle.semantics.specs.Machine.{Machine, machinery}
use Rattle.semantics.specs.Steps.{Limits, State, goes, step, run, unhandled, initial}
use Rattle.semantics.specs.ListLaws.{all_any}
use Rattle.semantics.specs.SlotLaws.{keys_of, assign_keys}
use Rattle.walk.proofs.Parts.{nothing_asked, asked_nowhere}
use Rattle.walk.proofs.Property.{Property}
use Rattle.walk.proofs.StepsKeep.{step_goes}
use Rattle.walk.proofs.RunsLater.{run_from}

is_true : (b : Bool) → T b → b ≡ true
is_true true t = refl
is_true false t = absurd t

-- ks: the names before the step. Nothing is asked of the parts.
unfoldable names_stay : List (List ℕ) → Property
unfolding machinery
names_stay ks =
    record {
      parts = nothing_asked;
      base = 0;
      Whole = λ m. keys_of m.handlers ≡ ks;
      since = λ m h. omega arith;
      other_stack = λ s m h. h;
      other_dictionary = λ d m h. h;
      other_exec = λ e m h. h;
      other_handler = λ n v m t h. assign_keys n v m.handlers (is_true _ t) ∙ h;
      other_latest = λ t m h. h;
      halting = λ m h. h;
      writing = λ t m h. h;
      making = λ o m h. h;
      protecting = λ i m a h. h;
      changing = λ i o m a h. h;
      filling = λ i o m b h. h;
    }

pub step_handlers : (l : Limits) (script : List ℕ) (σ τ : State) → step l script σ ≡ goes τ → keys_of τ.machine.handlers ≡ keys_of σ.machine.handlers
unfolding names_stay nothing_asked
step_handlers l script σ τ e =
    (step_goes (names_stay (keys_of σ.machine.handlers)) l script σ τ (all_any script) tt tt e (record { parts = asked_nowhere σ.machine; whole = refl })).whole

pub run_handlers : (l : Limits) (script : List ℕ) (fuel : ℕ) (σ : State) → keys_of (run l script fuel σ).final.machine.handlers ≡ keys_of σ.machine.handlers
run_handlers l script fuel σ =
    run_from (λ (m : Machine). Unit {0}) (λ (a b : Machine). keys_of b.handlers ≡ keys_of a.handlers) l script (λ m. refl) (λ a b c f g. g ∙ f)
    (λ σ τ k e. (tt, step_handlers l script σ τ e))
    fuel
    σ
    tt

-- From the start.
pub run_handlers_initial : (l : Limits) (script : List ℕ) (fuel : ℕ) → keys_of (run l script fuel initial).final.machine.handlers ≡ error_names
unfolding initial unhandled error_names
run_handlers_initial l script fuel = run_handlers l script fuel initial
