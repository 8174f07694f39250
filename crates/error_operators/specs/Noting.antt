-- What pushing a stored name promises (02, W1): the name, or null where none is stored, and then the test of room.
-- Assumes nothing.
use Rattle.std.specs.Prelude.{◌≡◌, List, ℕ}
use Rattle.std.proofs.Math.Option.{Option}
use Rattle.semantics.specs.Values.{Result, ok}
use Rattle.semantics.specs.Machine as Floo
use Rattle.semantics.specs.Machine.{push, name_or_null}
use Rattle.machine.specs.Places.{keys}
use Rattle.machine.specs.Rep.{Rep, Noted, Answer}
use Rattle.machine.specs.Room.{lent, fitted}
use Rattle.machine.specs.declared.Machine.{Machine}
use Rattle.machine.specs.Answers.{Did}

unfoldable pub noted_pushed : Option (List ℕ) → Floo.Machine → Result Floo.Machine
noted_pushed o μ = ok (push (name_or_null o) μ)

-- The words of stack and cells stand for some machine in which w is the word of a stored name.
abbrev pub NotedStack : ℕ → Machine → List ℕ → List ℕ → Type 0
NotedStack w m s c =
    (e : List ℕ) × (d : List ℕ) × (l : List ℕ) × (μ : Floo.Machine) × (o : Option (List ℕ)) × Noted (keys μ) o w × Rep m s e d c l μ

-- The stored name with the word w is pushed where there is room.
pub record PushesNoted (w : ℕ) (m : Machine) (s s' c c' : List ℕ) (r : Did) : Type 0 where
  pub does : (e d l : List ℕ) (μ : Floo.Machine)
      → Rep m s e d c l μ
      → (o : Option (List ℕ))
      → Noted (keys μ) o w
      → Answer (λ m'. Rep m' s' e d c' l) ((s' ≡ s) × (c' ≡ c)) r (fitted (lent s e d c l) (noted_pushed o) μ)
