-- An element of an array becomes another value.
use Rattle.std.specs.Prelude.{ℕ, ◌+◌, ◌≤◌, ◌<◌, ◌≡◌, List, length}
use Rattle.heap.specs.Word.{word}
use Rattle.heap.specs.Upd.{upd}
use Rattle.heap.specs.Chain.{live, on}
use Rattle.heap.specs.Shape.{Ghost, Full, NoOut, target, first_object}
use Rattle.heap.specs.Gone.{After}
use Rattle.heap.specs.declared.Lists.{Lists}

-- the place x names t
abbrev pub aimed : Ghost → ℕ → ℕ → Ghost
aimed g x t = record { own = g.own; top = g.top; size = g.size; aim = upd g.aim x t }

-- what the words of a value may name lives
abbrev pub Alives : Ghost → ℕ → ℕ → Type 0
Alives g tag pay = first_object ≤ tag → g.own pay ≡ live

-- words 0 and 1 of cell c become tag and pay, and counts may change
pub record Stored (m : List ℕ) (c tag pay : ℕ) (m' : List ℕ) : Type 0 where
  pub size : length m' ≡ length m
  pub tagged : word m' c 0 ≡ tag
  pub paid : word m' c 1 ≡ pay
  pub there : (x u : ℕ) → u < 4 → (u ≡ 2 → ⊥) → (x ≡ c → u ≡ 3) → word m' x u ≡ word m x u

-- the cell c of a live array is stored to, and what it named before is let go: g₁ and m₁ are in between
abbrev pub Assigned : ℕ → ℕ → ℕ → Lists → List ℕ → Lists → List ℕ → Type 0
Assigned c tag pay s m r m' = (p : ℕ) (g : Ghost) (a k : ℕ) → Full g p 0 s m → g.own c ≡ on (a + 2) k → g.own a ≡ live → word m a 0 ≡ 0 → Alives g tag pay
    → (m₁ : List ℕ) × (g' : Ghost) × Full (aimed g c (target 0 tag pay)) p (g.aim c) s m₁ × Stored m c tag pay m₁ × Full g' p 0 r m'
    × After p (aimed g c (target 0 tag pay)) m₁ g' m' × (NoOut g → NoOut g')

-- what an assignment needs
abbrev pub Target : ℕ → ℕ → ℕ → Lists → List ℕ → Type 0
Target c tag pay s m = (p : ℕ) × (g : Ghost) × (a : ℕ) × (k : ℕ) × Full g p 0 s m × (g.own c ≡ on (a + 2) k) × (g.own a ≡ live) × (word m a 0 ≡ 0) × Alives g tag pay

-- the count of what the value names goes up by one, for the value in hand
abbrev pub Risen : ℕ → ℕ → List ℕ → List ℕ → Type 0
Risen tag pay m m' = (p : ℕ) (g : Ghost) (s : Lists) → Full g p 0 s m → Alives g tag pay → Full g p (target 0 tag pay) s m'
