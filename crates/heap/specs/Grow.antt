-- A new object.
use Rattle.std.specs.Prelude.{ℕ, suc, ◌+◌, ◌/◌, ◌%◌, ◌<◌, ◌≡◌, List, ◌⊎◌, length}
use Rattle.heap.specs.Word.{word}
use Rattle.heap.specs.Chain.{live, out, on}
use Rattle.heap.specs.Shape.{Ghost, Full, NoOut, OnlyOut, size_unit, scattered}
use Rattle.heap.specs.declared.Lists.{Lists}

-- from g and m to g' and m' the object of header h is made or grows, by cells with 0 in words 0 and 1, and the others stay
pub record Grows (h : ℕ) (g : Ghost) (m : List ℕ) (g' : Ghost) (m' : List ℕ) : Type 0 where
  pub lives : (c : ℕ) → (c ≡ h → ⊥) → g.own c ≡ live → (g'.own c ≡ live) × (g'.size (c + 2) ≡ g.size (c + 2)) × (word m' c 0 ≡ word m c 0) × (word m' c 1 ≡ word m c 1) × (word m' c 3 ≡ word m c 3)
  pub lived : (c : ℕ) → (c ≡ h → ⊥) → g'.own c ≡ live → g.own c ≡ live
  pub kind : g.own h ≡ live → word m' h 0 ≡ word m h 0
  pub keeps : (c a k : ℕ) → g.own c ≡ on (a + 2) k → (g'.own c ≡ on (a + 2) k) × (word m' c 0 ≡ word m c 0) × (word m' c 1 ≡ word m c 1)
  pub kept : (c a k : ℕ) → g'.own c ≡ on (a + 2) k → (g.own c ≡ on (a + 2) k) ⊎ ((a ≡ h) × (word m' c 0 ≡ 0) × (word m' c 1 ≡ 0))
  pub aims : (x : ℕ) → g'.aim x ≡ g.aim x
  pub long : length m' ≡ length m

-- some ghost fits s and m
abbrev pub Fine : Lists → List ℕ → Type 0
Fine s m = (p : ℕ) × (hand : ℕ) × (g : Ghost) × Full g p hand s m

-- some ghost fits s and m, and h lives in it
abbrev pub FineLive : ℕ → Lists → List ℕ → Type 0
FineLive h s m = (p : ℕ) × (hand : ℕ) × (g : Ghost) × Full g p hand s m × (g.own h ≡ live)

-- the cell c comes off the lists
abbrev pub Took : Lists → List ℕ → ℕ → Lists → Type 0
Took s m c r = (p hand : ℕ) (g : Ghost) → Full g p hand s m → (g' : Ghost) × Full g' p hand r m × (g'.own c ≡ out) × ((h : ℕ) → Grows h g m g' m) × (NoOut g → OnlyOut g' c)

-- the object of header h gets n cells more, and may be written to if it might
abbrev pub Grew : ℕ → ℕ → Lists → List ℕ → Lists → List ℕ → Type 0
Grew n h s m r m' = (p hand : ℕ) (g : Ghost) → Full g p hand s m → g.own h ≡ live
    → (g' : Ghost) × Full g' p hand r m' × Grows h g m g' m' × (g'.own h ≡ live) × (g'.size (h + 2) ≡ n + g.size (h + 2)) × (NoOut g → NoOut g')
    × (word m' h 1 / size_unit % 2 ≡ word m h 1 / size_unit % 2)

-- a new object of n cells with header h is in hand, and may be written to
abbrev pub Made : ℕ → ℕ → ℕ → Lists → List ℕ → Lists → List ℕ → Type 0
Made kind n h s m r m' = (p : ℕ) (g : Ghost) → Full g p 0 s m
    → (g' : Ghost) × Full g' p (suc h) r m' × Grows h g m g' m' × (g'.own h ≡ live) × (g'.size (h + 2) ≡ n) × (word m' h 0 ≡ kind) × (g.own h ≡ live → ⊥) × (NoOut g → NoOut g')
    × ((c k : ℕ) → g.own c ≡ on (h + 2) k → ⊥) × (word m' h 1 / size_unit % 2 ≡ 0)

-- a header's word 1 from w to v, where the cell c comes before `first`: one cell more, read only if it was, and they stand side by side only if they did and c is next to `first`
pub record Longer (w first c v : ℕ) : Type 0 where
  pub more : v % size_unit ≡ suc (w % size_unit)
  pub kept : v / size_unit % 2 ≡ w / size_unit % 2
  pub side : v / scattered % 2 ≡ 0 → (w / scattered % 2 ≡ 0) × ((w % size_unit ≡ 0) ⊎ (c ≡ first + 1))

-- the words of cell c become 0, 0, v and w
pub record Filled (m : List ℕ) (c v w : ℕ) (m' : List ℕ) : Type 0 where
  pub size : length m' ≡ length m
  pub tag : word m' c 0 ≡ 0
  pub pay : word m' c 1 ≡ 0
  pub next : word m' c 2 ≡ v
  pub skip : word m' c 3 ≡ w
  pub there : (x u : ℕ) → u < 4 → (x ≡ c → ⊥) → word m' x u ≡ word m x u
