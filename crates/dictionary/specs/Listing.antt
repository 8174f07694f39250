-- Names in a list of bytes, and the name of a slot.
-- Assumes nothing.
use Rattle.std.specs.Prelude.{◌≡◌, Bool, List, [], ◌∷◌, ◌++◌, ℕ, ◌≤◌, ◌<◌, length, get_or}
use Rattle.std.proofs.Math.Option.{some}
use Rattle.std.proofs.Math.ListN.{get_elem?}
use Rattle.semantics.specs.Text.{same}
use Rattle.semantics.specs.Machine as Floo
use Rattle.machine.specs.Places.{keys}
use Rattle.machine.specs.Rep.{Rep}
use Rattle.machine.specs.declared.Machine.{Machine}

-- Names one after another, each with a blank after it.
unfoldable pub listed : List (List ℕ) → List ℕ
listed [] = []
listed (n ∷ ns) = n ++ (32 ∷ listed ns)

-- The first blank from `at` on is at r; r is the end where there is none.
pub record Ends (list : List ℕ) (at r : ℕ) : Type 0 where
  pub after : at ≤ r
  pub within : r ≤ length list
  pub none : (i : ℕ) → at ≤ i → i < r → get_or list i 0 ≡ 32 → ⊥
  pub here : r < length list → get_or list r 0 ≡ 32

-- Whether the name that has the slot k is n.
pub record IsNamed (d : List ℕ) (k : ℕ) (n : List ℕ) (r : Bool) : Type 0 where
  pub says : (m : Machine) (s e c l : List ℕ) (μ : Floo.Machine)
      → Rep m s e d c l μ
      → (x : List ℕ)
      → get_elem? (keys μ) k ≡ some x
      → r ≡ same n x
