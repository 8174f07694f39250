-- What is read of the names that have slots, for every machine that the words stand for.
-- Assumes nothing.
use Rattle.std.specs.Prelude.{◌≡◌, List, ℕ, ◌≤◌, length, get_or}
use Rattle.std.proofs.Math.Option.{some}
use Rattle.std.proofs.Math.ListN.{get_elem?}
use Rattle.semantics.specs.Sizes.{name_most}
use Rattle.semantics.specs.Machine as Floo
use Rattle.machine.specs.Places.{keys}
use Rattle.machine.specs.Rep.{Rep}
use Rattle.machine.specs.declared.Machine.{Machine}

-- The dictionary's words have a name in slot k, in some machine that they stand for.
pub record Named (k : ℕ) (d : List ℕ) : Type 0 where
  pub small : Machine
  pub stack : List ℕ
  pub exec : List ℕ
  pub heap : List ℕ
  pub log : List ℕ
  pub machine : Floo.Machine
  pub rep : Rep small stack exec d heap log machine
  pub name : List ℕ
  pub slot : get_elem? (keys machine) k ≡ some name

-- The length of the name in slot k.
pub record NameSize (k : ℕ) (d : List ℕ) (r : ℕ) : Type 0 where
  pub says : (m : Machine) (s e c l : List ℕ) (μ : Floo.Machine)
      → Rep m s e d c l μ
      → (n : List ℕ)
      → get_elem? (keys μ) k ≡ some n
      → (r ≡ length n) × (r ≤ name_most)

-- Its byte j, 0 past its end.
pub record NameByte (k j : ℕ) (d : List ℕ) (r : ℕ) : Type 0 where
  pub says : (m : Machine) (s e c l : List ℕ) (μ : Floo.Machine) → Rep m s e d c l μ → (n : List ℕ) → get_elem? (keys μ) k ≡ some n → r ≡ get_or n j 0
