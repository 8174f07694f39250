-- In every state of a run the marks for read only are on objects that have been made: readonly marks what a value names, and a brace group what it has made. So a
-- new object has none.
-- Assumes nothing.
use mathlib.Core.Path.{◌≡◌}
use mathlib.Core.List.{List, [], ◌∷◌}
use Prim.Native.Nat.{ℕ}
use native.Mathlib.Omega.{arith}
use lib.ListN.{length-append, length-set}
use Rattle.semantics.specs.Machine.{Machine, made, machinery}
use Rattle.semantics.specs.Steps.{Limits, State, goes, step, run, initial}
use Rattle.semantics.specs.ListLaws.{nil, all_any}
use Rattle.semantics.specs.MarkLaws.{Below, below_added, below_more}
use Rattle.walk.proofs.Property.{Property, Fit}
use Rattle.walk.proofs.StepsKeep.{step_goes}
use Rattle.walk.proofs.RunsLater.{run_from}
use Rattle.growth.proofs.Kinding.{kinds, Kinded, initial_kinded}

abbrev pub Marked : Machine → Type 0
Marked m = Below (made m) m.read_only

unfoldable marks_made : Property
unfolding machinery kinds
marks_made =
    record {
      parts = kinds;
      base = 0;
      Whole = Marked;
      since = λ m h. omega arith;
      other_stack = λ s m h. h;
      other_dictionary = λ d m h. h;
      other_exec = λ e m h. h;
      other_handler = λ n v m t h. h;
      other_latest = λ t m h. h;
      halting = λ m h. h;
      writing = λ t m h. h;
      making = λ o m h. below_more (omega (arith, length-append m.store (o ∷ []))) h;
      protecting = λ i m a h. below_added h i (a tt);
      changing = λ i o m a h. below_more (omega (arith, length-set m.store i o)) h;
      filling = λ i o m b h. below_more (omega (arith, length-set m.store i o)) h;
    }

step_fit : (l : Limits) (script : List ℕ) (σ τ : State) → Kinded σ.machine → Marked σ.machine → step l script σ ≡ goes τ → Fit marks_made τ.machine
unfolding marks_made kinds
step_fit l script σ τ k h e = step_goes marks_made l script σ τ (all_any script) tt tt e (record { parts = k; whole = h })

-- A step keeps them so.
pub step_marked : (l : Limits) (script : List ℕ) (σ τ : State)
    → Kinded σ.machine
    → Marked σ.machine
    → step l script σ ≡ goes τ
    → Kinded τ.machine × Marked τ.machine
unfolding marks_made
step_marked l script σ τ k h e = let f = step_fit l script σ τ k h e in (f.parts, f.whole)

-- A state of a run whose values name objects of their own kind has marks on made objects alone, if it begins so.
pub run_marked : (l : Limits) (script : List ℕ) (fuel : ℕ) (σ : State) → Kinded σ.machine → Marked σ.machine → Marked (run l script fuel σ).final.machine
run_marked l script fuel σ k h =
    run_from (λ (m : Machine). Kinded m × Marked m) (λ (a b : Machine). Marked a → Marked b) l script (λ m t. t) (λ a b c f g t. g (f t))
    (λ σ τ q e. let n = step_marked l script σ τ q.0 q.1 e in (n, λ t. n.1))
    fuel
    σ
    (k, h)
    h

-- From the start, where nothing has the mark.
pub run_marked_initial : (l : Limits) (script : List ℕ) (fuel : ℕ) → Marked (run l script fuel initial).final.machine
unfolding initial
run_marked_initial l script fuel = run_marked l script fuel initial initial_kinded nil
