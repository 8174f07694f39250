-- What the operators on the dictionary promise: the definition's operator with the test of room after it.
-- Assumes nothing.
use Rattle.std.specs.Prelude.{◌≡◌, List, ℕ}
use Rattle.semantics.specs.Values.{Result}
use Rattle.semantics.specs.Machine as Floo
use Rattle.machine.specs.Rep.{Rep, Answer}
use Rattle.machine.specs.Room.{lent, fitted}
use Rattle.machine.specs.declared.Machine.{Machine}
use Rattle.machine.specs.Answers.{Did}

-- The words of stack, dictionary and cells stand for some machine.
abbrev pub Represented : Machine → List ℕ → List ℕ → List ℕ → Type 0
Represented m s d c = (e : List ℕ) × (l : List ℕ) × (μ : Floo.Machine) × Rep m s e d c l μ

-- An operator that touches them does f where there is room, or fails as f and the test of room do.
pub record DoesDictionary (f : Floo.Machine → Result Floo.Machine) (m : Machine) (s s' d d' c c' : List ℕ) (r : Did) : Type 0 where
  pub does : (e l : List ℕ) (μ : Floo.Machine)
      → Rep m s e d c l μ
      → Answer (λ m'. Rep m' s' e d' c' l) ((s' ≡ s) × (d' ≡ d) × (c' ≡ c)) r (fitted (lent s e d c l) f μ)
