-- What a release frees: the objects that only dead objects name.
use Rattle.std.specs.Prelude.{ℕ, suc, ◌+◌, ◌%◌, ◌≤◌, ◌<◌, ◌≡◌, true, false, List, ◌⊎◌, length}
use Rattle.heap.specs.Word.{word, Put}
use Rattle.heap.specs.Chain.{live, out, on}
use Rattle.heap.specs.Shape.{Ghost, Heap, Full, pushed, NoOut, cells, is_body, header_mark, first_unit}
use Rattle.heap.specs.declared.Lists.{Lists}

-- each place that names h is a body cell, of an object that is gone
pub data Gone (p : ℕ) (g : Ghost) : ℕ → Type 0 where
  gone : {h : ℕ} → ((x : ℕ) → x < p → g.aim x ≡ suc h → is_body (g.own x) ≡ true)
      → ((x a k : ℕ) → x < p → g.aim x ≡ suc h → g.own x ≡ on (a + 2) k → Gone p g a) → Gone p g h

-- g₀ and m₀ with no dead header
pub record Start (p : ℕ) (g₀ : Ghost) (m₀ : List ℕ) : Type 0 where
  pub ready : (c a k : ℕ) → g₀.own c ≡ on (a + 2) k → g₀.own a ≡ live
  pub other : (c : ℕ) → c < cells m₀ → is_body (g₀.own c) ≡ false → g₀.aim c ≡ 0

-- what has come about since g₀ and m₀
pub record Since (p : ℕ) (g₀ : Ghost) (m₀ : List ℕ) (g : Ghost) (m : List ℕ) : Type 0 where
  pub start : Start p g₀ m₀
  pub alive : (h : ℕ) → g.own h ≡ live → (g₀.own h ≡ live) × (g.size (h + 2) ≡ g₀.size (h + 2)) × (word m h 0 ≡ word m₀ h 0) × (word m h 1 ≡ word m₀ h 1) × (word m h 3 ≡ word m₀ h 3)
  pub body : (c a k : ℕ) → g.own c ≡ on (a + 2) k → (g₀.own c ≡ on (a + 2) k) × (g.aim c ≡ g₀.aim c) × (word m c 0 ≡ word m₀ c 0) × (word m c 1 ≡ word m₀ c 1)
  pub kept : (c a k : ℕ) → g₀.own c ≡ on (a + 2) k → g.own a ≡ live → g.own c ≡ on (a + 2) k
  pub roots : (x : ℕ) → cells m₀ ≤ x → g.aim x ≡ g₀.aim x
  pub dies : (h : ℕ) → g₀.own h ≡ live → (g.own h ≡ live) ⊎ Gone p g₀ h
  pub long : length m ≡ length m₀

-- some ghost fits s and m, with hand still to be let go
abbrev pub Sound : ℕ → Lists → List ℕ → Type 0
Sound hand s m = (p : ℕ) × (g : Ghost) × Full g p hand s m

-- what had come about at g and m, and what has come about at g' and m'
abbrev pub After : ℕ → Ghost → List ℕ → Ghost → List ℕ → Type 0
After p g m g' m' = (g₀ : Ghost) (m₀ : List ℕ) → Since p g₀ m₀ g m → Since p g₀ m₀ g' m'

-- from s and m, with hand to be let go, to r and m' with nothing in hand: part of a release
abbrev pub Goes : ℕ → Lists → List ℕ → Lists → List ℕ → Type 0
Goes hand s m r m' = (p : ℕ) (g : Ghost) → Full g p hand s m → (g' : Ghost) × Full g' p 0 r m' × After p g m g' m' × (NoOut g → NoOut g')

-- the cell c, which is on no list and has no mark, goes on the free list
abbrev pub Freed : ℕ → Lists → List ℕ → Lists → List ℕ → Type 0
Freed c s m r m' = Put m c 2 s.free m' × (r.listed ≡ s.listed + 1)
    × ((g : Ghost) → Heap g s m → g.own c ≡ out → Heap (pushed g 0 c) r m')

-- the first cell b of the body of d, which has n, comes off
pub record Shed (m : List ℕ) (d n b : ℕ) (m' : List ℕ) : Type 0 where
  pub mid : List ℕ
  pub cell : b ≡ word m d 3 % first_unit
  pub less : (v : ℕ) → n ≡ suc v → Put m d 1 v mid
  pub next : Put mid d 3 (header_mark + word m b 2 % first_unit) m'
