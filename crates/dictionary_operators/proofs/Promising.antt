-- From what an operator does to every machine that the words stand for, its promise with the test of room.
-- Assumes nothing.
use Rattle.std.specs.Prelude.{Ok, Err}
use mathlib.Core.Path.{◌≡◌, refl, sym, ap, ◌∙◌, subst}
use mathlib.Core.List.{List}
use Prim.Native.Nat.{ℕ}
use lib.ListN.{length}
use Rattle.semantics.specs.Values.{Result, ok, fault, ◌>>=◌}
use Rattle.semantics.specs.Machine as Floo
use Rattle.semantics.specs.Steps.{room_for}
use Rattle.semantics.specs.declared.Error.{Error}
use Rattle.machine.specs.Rep.{Rep, Answer}
use Rattle.machine.specs.Room.{lent, fitted}
use Rattle.machine.specs.declared.Machine.{Machine}
use Rattle.machine.specs.Answers.{Did}
use Rattle.machine.proofs.Rooms.{rep_passes, fitted_fails}
use Rattle.dictionary_operators.specs.Promises.{DoesDictionary}

-- Room goes by lengths.
same_room : (s e c l d d' : List ℕ) → length d' ≡ length d → lent s e d' c l ≡ lent s e d c l
unfolding lent
same_room s e c l d d' q = rw q refl

-- What a machine becomes by f, with as many objects.
abbrev pub Becomes : (Floo.Machine → Result Floo.Machine) → Machine → List ℕ → List ℕ → List ℕ → List ℕ → List ℕ → Floo.Machine → Type 0
Becomes f m' s' d' c' e l μ = (after : Floo.Machine) × (f μ ≡ ok after) × (length after.store ≡ length μ.store) × Rep m' s' e d' c' l after

module _ {f : Floo.Machine → Result Floo.Machine} {m : Machine} {s d c : List ℕ} where
  pub fails : {x : Error} → ((e l : List ℕ) (μ : Floo.Machine) → Rep m s e d c l μ → f μ ≡ fault x) → DoesDictionary f m s s d d c c (Err x)
  fails h = record { does = λ e l μ R. (fitted_fails (lent s e d c l) f μ (h e l μ R), (refl, refl, refl)) }

  pub does : {m' : Machine} {s' d' c' : List ℕ}
      → length s' ≡ length s
      → length d' ≡ length d
      → ((e l : List ℕ) (μ : Floo.Machine) → Rep m s e d c l μ → Becomes f m' s' d' c' e l μ)
      → DoesDictionary f m s s' d d' c c' (Ok m')
  unfolding fitted ◌>>=◌
  does {d' = d'} stack dict h =
      record {
        does = λ e l μ R.
            let t = h e l μ R in
            (t.0, ap (λ q. q >>= room_for (lent s e d c l) μ) t.1 ∙ ap (λ x. room_for x μ t.0) (sym (same_room s e c l d d' dict)) ∙ rep_passes t.3 μ s c stack t.2, t.3);
      }

-- Operators that agree on the machines that the words stand for have the same promise.
pub alike : {f g : Floo.Machine → Result Floo.Machine} {m : Machine} {s s' d d' c c' : List ℕ} (r : Did)
    → ((e l : List ℕ) (μ : Floo.Machine) → Rep m s e d c l μ → f μ ≡ g μ)
    → DoesDictionary f m s s' d d' c c' r
    → DoesDictionary g m s s' d d' c c' r
unfolding fitted
alike {s = s} {s' = s'} {d = d} {d' = d'} {c = c} {c' = c'} r h D =
    record {
      does = λ e l μ R.
          subst (λ q. Answer (λ m'. Rep m' s' e d' c' l) ((s' ≡ s) × (d' ≡ d) × (c' ≡ c)) r (q >>= room_for (lent s e d c l) μ)) (h e l μ R) (D.does e l μ R);
    }
