-- Operators by their numbers, and the promise of one that may touch all lent words.
-- Assumes nothing.
use Rattle.std.specs.Prelude.{◌≡◌, List, [], ℕ, get_or}
use Rattle.semantics.specs.Values.{Result}
use Rattle.semantics.specs.Machine as Floo
use Rattle.semantics.specs.Operators.{perform}
use Rattle.store.specs.Rep.{titles}
use Rattle.machine.specs.Rep.{Rep, Answer}
use Rattle.machine.specs.Room.{lent, fitted}
use Rattle.machine.specs.declared.Machine.{Machine}
use Rattle.machine.specs.Answers.{Did}
use Rattle.output_operators.specs.Output.{LogRest}

-- The operator of number k.
unfoldable pub perform_at : ℕ → Floo.Machine → Result Floo.Machine
perform_at k = perform (get_or titles k [])

-- All lent words stand for some machine.
abbrev pub Everywhere : Machine → List ℕ → List ℕ → List ℕ → List ℕ → List ℕ → Type 0
Everywhere m s e d c l = (μ : Floo.Machine) × Rep m s e d c l μ

-- An operator does f where there is room, or fails as f and the test of room do; then no word has changed. The log past what is written is as before.
pub record DoesAll (f : Floo.Machine → Result Floo.Machine) (m : Machine) (s s' e e' d d' c c' l l' : List ℕ) (r : Did) : Type 0 where
  pub does : (μ : Floo.Machine)
      → Rep m s e d c l μ
      → Answer (λ m'. Rep m' s' e' d' c' l') ((s' ≡ s) × (e' ≡ e) × (d' ≡ d) × (c' ≡ c) × (l' ≡ l)) r (fitted (lent s e d c l) f μ)
  pub rest : LogRest l l' r

-- ---- words that are not lent

abbrev pub EverywhereButLog : Machine → List ℕ → List ℕ → List ℕ → List ℕ → Type 0
EverywhereButLog m s e d c = (l : List ℕ) × Everywhere m s e d c l

-- An operator that does not touch the log.
pub record DoesButLog (f : Floo.Machine → Result Floo.Machine) (m : Machine) (s s' e e' d d' c c' : List ℕ) (r : Did) : Type 0 where
  pub all : (l : List ℕ) → DoesAll f m s s' e e' d d' c c' l l r
