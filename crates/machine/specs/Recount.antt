-- A place changes what it names: one place more names the new object, one place less the old.
-- Assumes nothing.
use Rattle.std.specs.Prelude.{◌≡◌, List, ℕ, ◌≤◌, ◌<◌, length}
use Rattle.heap.specs.Word.{word}
use Rattle.heap.specs.Shape.{Ghost, Full, NoOut, cells, target}
use Rattle.heap.specs.Assign.{aimed, Alives}
use Rattle.heap.specs.Gone.{Since}
use Rattle.heap.specs.declared.Lists.{Lists}

-- The place x, a root, holds the old value, and what the new one names lives.
pub record Place (s : Lists) (c : List ℕ) (old was tag pay P : ℕ) (g : Ghost) (x : ℕ) : Type 0 where
  pub full : Full g P 0 s c
  pub none_dead : s.dead ≡ 0
  pub alive : Alives g tag pay
  pub root : cells c ≤ x
  pub inside : x < P
  pub holds : g.aim x ≡ target 0 old was

-- Some place does.
abbrev pub Placed : Lists → List ℕ → ℕ → ℕ → ℕ → ℕ → Type 0
Placed s c old was tag pay = (P : ℕ) × (g : Ghost) × (x : ℕ) × Place s c old was tag pay P g x

-- The place x names the new value; `counted` are the words with the new count, and `ghost` what is left when the old value has been let go.
pub record Change (s : Lists) (c : List ℕ) (tag pay : ℕ) (r : Lists) (c' : List ℕ) (P : ℕ) (g : Ghost) (x : ℕ) : Type 0 where
  pub counted : List ℕ
  pub ghost : Ghost
  pub long : length counted ≡ length c
  pub same : (y u : ℕ) → u < 4 → (u ≡ 2 → ⊥) → word counted y u ≡ word c y u
  pub risen : Full g P (target 0 tag pay) s counted
  pub full : Full ghost P 0 r c'
  pub since : Since P (aimed g x (target 0 tag pay)) counted ghost c'
  pub whole : NoOut g → NoOut ghost

pub record Recounts (s : Lists) (c : List ℕ) (old was tag pay : ℕ) (r : Lists) (c' : List ℕ) : Type 0 where
  pub none_dead : r.dead ≡ 0
  pub changes : (P : ℕ) (g : Ghost) (x : ℕ) → Place s c old was tag pay P g x → Change s c tag pay r c' P g x
