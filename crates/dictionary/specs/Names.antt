-- Names by their slots.
-- Assumes nothing.
use Rattle.std.specs.Prelude.{◌≡◌, true, false, List, [], ◌∷◌, ℕ, suc, ◌*◌, ◌<◌, get_or}
use Rattle.semantics.specs.Text.{same}
use Rattle.semantics.specs.Machine as Floo
use Rattle.semantics.specs.Machine.{Slot, intern}
use Rattle.machine.specs.Rep.{Rep}
use Rattle.machine.specs.declared.Machine.{Machine}

-- The slot of a name; the number of slots where it has none.
unfoldable pub slot_of : List ℕ → List Slot → ℕ
slot_of n [] = 0
slot_of n (s ∷ d) = elim (same n s.key) [ true ↦ 0 | false ↦ suc (slot_of n d) ]

pub record Finds (m : Machine) (d n : List ℕ) (r : ℕ) : Type 0 where
  pub says : (s e c l : List ℕ) (μ : Floo.Machine) → Rep m s e d c l μ → r ≡ slot_of n μ.dictionary

-- The first k words are as they were.
pub record Kept (k : ℕ) (d d' : List ℕ) : Type 0 where
  pub below : (i : ℕ) → i < k → get_or d' i 0 ≡ get_or d i 0

-- A name that has no slot takes the next one, unbound.
pub record Adds (m r : Machine) (d d' n : List ℕ) : Type 0 where
  pub moves : (s e c l : List ℕ) (μ : Floo.Machine)
      → Rep m s e d c l μ
      → slot_of n μ.dictionary ≡ m.names
      → Rep r s e d' c l (intern n μ)
  pub kept : Kept (12 * m.names) d d'
